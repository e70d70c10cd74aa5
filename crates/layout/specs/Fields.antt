-- The fields of one component (refusal 6), clause by clause in the order of the paper.
use Rattle.std.specs.Prelude.{ℕ, ◌%◌, List, [], ◌∷◌, Bool, true, false, not, cond, ◌&&◌, ◌||◌, ltb, leb, eqb, ℤ, pos, negsuc, length}
use Rattle.lists.specs.Tests.{every, each}
use Rattle.layout.specs.declared.Object.{Object}
use Rattle.layout.specs.declared.Component.{Component}
use Rattle.layout.specs.Records.{record_count, records_of}

-- "a nonzero multiple of 65,536"
unfoldable pub nonzero_multiple : ℕ → Bool
nonzero_multiple n = ltb 0 n && eqb (n % 65536) 0

-- "An extension has begin below end, stripe count 0, stripe size 0 and an extension size that is a nonzero multiple of
-- 65,536."
unfoldable pub extension_ok : ℕ → ℕ → ℕ → ℕ → ℕ → Bool
extension_ok begin end count size extension = ltb begin end && eqb count 0 && eqb size 0 && nonzero_multiple extension

-- "Any other has stripe count 1 to 16, a stripe size that is a nonzero multiple of 65,536, and extension size 0; if init,
-- begin is below end."
unfoldable pub striped_ok : Bool → ℕ → ℕ → ℕ → ℕ → ℕ → Bool
striped_ok init begin end count size extension =
    leb 1 count && leb count 16 && nonzero_multiple size && eqb extension 0 && (not init || ltb begin end)

-- An extension, or any other.
unfoldable pub kind_ok : Bool → Bool → ℕ → ℕ → ℕ → ℕ → ℕ → Bool
kind_ok is_extension init begin end count size extension =
    cond is_extension (extension_ok begin end count size extension) (striped_ok init begin end count size extension)

-- Is the signed number -1? (`negsuc n` is -(n + 1).)
unfoldable pub is_minus_one : ℤ → Bool
is_minus_one (pos n) = false
is_minus_one (negsuc n) = eqb n 0

-- Is the signed number this target?
unfoldable pub is_target : ℤ → ℕ → Bool
is_target (pos n) t = eqb n t
is_target (negsuc n) t = false

-- "First target is -1 unless init, and then it is the target of the first object record."
unfoldable pub first_target_ok : Bool → ℤ → List Object → Bool
first_target_ok false z os = is_minus_one z
first_target_ok true z [] = false
first_target_ok true z (o ∷ os) = is_target z o.target

-- "Targets are at most 65,534."
abbrev pub target_ok : Object → Bool
target_ok o = leb o.target 65534

-- The rules of the fields: "id at least 1; begin at most end; init and extension not both", then the kinds, the first target
-- and the targets. The last clause, that the object records are all there, follows if the array has 16 places; it is here
-- so that laws about lists may use it.
unfoldable pub fields_ok : Component → Bool
fields_ok c =
    leb 1 c.id
    && leb c.begin c.end
    && not (c.init && c.extension)
    && kind_ok c.extension c.init c.begin c.end c.stripe_count c.stripe_size c.extension_size
    && first_target_ok c.init c.first_target (records_of c)
    && every (each target_ok (records_of c))
    && eqb (length (records_of c)) (record_count c)

-- Refusal 6 over a list: one test for each component.
abbrev pub field_tests : List Component → List Bool
field_tests cs = each fields_ok cs
