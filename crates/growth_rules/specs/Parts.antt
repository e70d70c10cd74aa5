-- What the steps of growth do to single components and to an extension. What is in quotes is document 01's.
use Rattle.std.specs.Prelude.{ℕ, zero, suc, ◌+◌, min, ◌≡◌, List, [], ◌∷◌, true, false, cond, eqb, pos, length, get_or}
use Rattle.lists.specs.Counting.{elem}
use Rattle.layout.specs.declared.Object.{Object}
use Rattle.layout.specs.declared.Component.{Component}
use Rattle.layout.specs.Records.{no_object, pack_objects}

-- A component with another extent. Nothing else of it changes.
abbrev pub with_extent : ℕ → ℕ → Component → Component
with_extent begin end c =
    record {
      init = c.init;
      extension = c.extension;
      id = c.id;
      stripe_count = c.stripe_count;
      stripe_size = c.stripe_size;
      first_target = c.first_target;
      begin = begin;
      end = end;
      extension_size = c.extension_size;
      objects = c.objects;
    }

-- A reading of a byte by a component that does not look at the component's extent.
abbrev pub NoExtent : {A : Type 0} → (Component → ℕ → A) → Type 0
NoExtent read = (begin end : ℕ) (c : Component) (b : ℕ) → read (with_extent begin end c) b ≡ read c b

-- A component made init on the object records in the places of an array. Its first target is that of the first of them.
abbrev pub init_with : List Object → Component → Component
init_with objects c =
    record {
      init = true;
      extension = c.extension;
      id = c.id;
      stripe_count = c.stripe_count;
      stripe_size = c.stripe_size;
      first_target = pos (get_or objects 0 no_object).target;
      begin = c.begin;
      end = c.end;
      extension_size = c.extension_size;
      objects = objects;
    }

-- "make it init": a component with object records on the chosen targets, the rest of its places blank.
abbrev pub made_init : List Object → Component → Component
made_init os c = init_with (pack_objects os) c

-- The component that repeats d, with a new id, before targets are chosen for it.
abbrev pub repeat_base : ℕ → ℕ → Component → Component
repeat_base new begin d =
    record {
      init = d.init;
      extension = false;
      id = new;
      stripe_count = d.stripe_count;
      stripe_size = d.stripe_size;
      first_target = d.first_target;
      begin = begin;
      end = d.end;
      extension_size = 0;
      objects = d.objects;
    }

-- "A new init component .. with C's stripe size and count, on newly chosen targets", with a new id and an extent of its own.
abbrev pub repeat_of : ℕ → Component → ℕ → ℕ → List Object → Component
repeat_of new c begin end os = with_extent begin end (made_init os (repeat_base new begin c))

-- The lower of a begin + an extension's size and the extension's end: "N ends at the lower of N's new begin + Y's extension size
-- and Y's end". From the extension's own begin on, this is where a grant ends: "A grant moves the lower of X's extension size and
-- X's length from X's head" (`PartLaws: grant_length`).
abbrev pub reach : ℕ → Component → ℕ
reach from x = min (from + x.extension_size) x.end

-- What is left of an extension once its bytes below `at` are gone, before other components: "An empty extension is removed."
unfoldable pub leaving : ℕ → Component → List Component → List Component
leaving at x cs = cond (eqb at x.end) cs (with_extent at x.end x ∷ cs)

-- The extension x directly after c, before other components: "C takes a grant".
unfoldable pub granting : Component → Component → List Component → List Component
granting c x cs = with_extent c.begin (reach x.begin x) c ∷ leaving (reach x.begin x) x cs

-- The component n, made init, begins at `from`, before the components cs: "if an extension Y follows it, N ends at the lower of
-- N's new begin + Y's extension size and Y's end, and Y begins there."
unfoldable pub following : ℕ → Component → List Component → List Component
following from n [] = with_extent from n.end n ∷ []
following from n (y ∷ cs) =
    cond y.extension (with_extent from (reach from y) n ∷ leaving (reach from y) y cs) (with_extent from n.end n ∷ y ∷ cs)

-- The first number from k on that is none of the ids, if at most `n` of them are k or more.
abbrev pub id_from : ℕ → ℕ → List ℕ → ℕ
id_from zero k ids = k
id_from (suc n) k ids = cond (elem eqb k ids) (id_from n (k + 1) ids) k

-- "its id is the smallest from 1 that no component of the layout handed in has."
unfoldable pub fresh_id : List ℕ → ℕ
fresh_id ids = id_from (length ids) 1 ids
