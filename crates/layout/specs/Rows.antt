-- Object records as two rows of numbers, their targets and their numbers, at the same places.
use Rattle.std.specs.Prelude.{ℕ, zero, suc, ◌+◌, ◌*◌, ◌%◌, ◌≤◌, ◌<◌, ◌≡◌, refl, List, [], ◌∷◌, map, length, get_or, take}
use Rattle.std.proofs.Common.{ap, arith}
use Rattle.std.proofs.lemmas.List.Edits.{sets}
use Rattle.lists.specs.Slices.{take_sets_map}
use Rattle.layout.specs.declared.Object.{Object}
use Rattle.layout.specs.Records.{no_object}

-- The target of an object record.
abbrev pub target_of : Object → ℕ
target_of o = o.target

-- The number of an object record.
abbrev pub number_of : Object → ℕ
number_of o = o.number

-- The row of the targets of object records.
abbrev pub targets_of : List Object → List ℕ
targets_of os = map target_of os

-- The row of their numbers.
abbrev pub numbers_of : List Object → List ℕ
numbers_of os = map number_of os

-- The object record with this target and this number.
abbrev pub object_of : ℕ → ℕ → Object
object_of t n = record { target = t; number = n }

-- The object records that two rows name, up to the end of the shorter one.
abbrev pub named : List ℕ → List ℕ → List Object
named [] ns = []
named (t ∷ ts) [] = []
named (t ∷ ts) (n ∷ ns) = object_of t n ∷ named ts ns

-- A key of an object record, below 65,536. Records with different keys are different.
unfoldable pub key_of : Object → ℕ
key_of o = (o.number % 65536 + 257 * (o.target % 65536)) % 65536

-- The row of the keys of object records.
abbrev pub keys_of : List Object → List ℕ
keys_of os = map key_of os

-- The object record at a place of both rows.
pub get_d_named : (ts ns : List ℕ) (i : ℕ) → i < length ts → i < length ns
    → get_or (named ts ns) i no_object ≡ object_of (get_or ts i 0) (get_or ns i 0)
get_d_named [] ns i h k = absurd (omega arith)
get_d_named (t ∷ ts) [] i h k = absurd (omega arith)
get_d_named (t ∷ ts) (n ∷ ns) zero h k = refl
get_d_named (t ∷ ts) (n ∷ ns) (suc i) h k = get_d_named ts ns i (omega arith) (omega arith)

-- Two rows name as many object records as each has places.
pub length_named : (ts ns : List ℕ) (n : ℕ) → n ≤ length ts → n ≤ length ns → n ≤ length (named ts ns)
length_named ts ns zero h k = omega arith
length_named [] ns (suc n) h k = absurd (omega arith)
length_named (t ∷ ts) [] (suc n) h k = absurd (omega arith)
length_named (t ∷ ts) (m ∷ ns) (suc n) h k = omega (arith, length_named ts ns n (omega arith) (omega arith))

-- Two rows of the same length name as many object records as each has places.
pub named_length : (ts ns : List ℕ) → length ns ≡ length ts → length (named ts ns) ≡ length ts
named_length [] ns h = refl
named_length (t ∷ ts) [] h = absurd (omega arith)
named_length (t ∷ ts) (n ∷ ns) h = ap suc (named_length ts ns (omega arith))

-- The first object records that two rows name are named by the first places of the rows.
pub take_named : (k : ℕ) (ts ns : List ℕ) → take k (named ts ns) ≡ named (take k ts) (take k ns)
take_named zero ts ns = refl
take_named (suc k) [] ns = refl
take_named (suc k) (t ∷ ts) [] = refl
take_named (suc k) (t ∷ ts) (n ∷ ns) = ap (λ (os : List Object). object_of t n ∷ os) (take_named k ts ns)

-- Object records are named by the rows of their targets and numbers.
pub named_rows : (os : List Object) → named (targets_of os) (numbers_of os) ≡ os
named_rows [] = refl
named_rows (o ∷ os) = ap (λ (rest : List Object). o ∷ rest) (named_rows os)

-- Object records stored in the first places of two rows are read back.
pub rows_back : (ts ns : List ℕ) (os : List Object) → length os ≤ length ts → length os ≤ length ns
    → take (length os) (named (sets ts 0 (targets_of os)) (sets ns 0 (numbers_of os))) ≡ os
rows_back ts ns os h k =
    rw (
      take_named (length os) (sets ts 0 (targets_of os)) (sets ns 0 (numbers_of os)),
      take_sets_map target_of ts os h,
      take_sets_map number_of ns os k,
    ) (named_rows os)
