-- The promises on growth, beside those of `Promises`, which says how to read this. The contract of `moorsickle::grow`
-- is `grow_says r ≡ (grow_of l k).answer`, and the layout and the table afterwards are those of `grow_of l k`. What
-- is in quotes is document 01's.
use Rattle.std.specs.Prelude.{ℕ, ◌+◌, ◌≤◌, ◌<◌, ◌≡◌, List, [], ◌∷◌, map, true, false, length, get_or}
use Rattle.std.proofs.Math.Option.{some}
use Rattle.layout.specs.declared.Component.{Component}
use Rattle.layout.specs.declared.Layout.{Layout}
use Rattle.layout.specs.Records.{no_object, view}
use Rattle.layout.specs.Rules.{valid}
use Rattle.mapping.specs.Answers.{gives, refuses, answer_number}
use Rattle.mapping.specs.declared.Piece.{Piece}
use Rattle.mapping.specs.Homes.{reading_of, home_of, is_given}
use Rattle.mapping.specs.Cutting.{cut_pieces}
use Rattle.free_table.specs.Table.{no_record, usable}
use Rattle.free_table.specs.ChosenFacts.{NextOf, ChosenOrHigher, raised_in}
use Rattle.growth_rules.specs.Parts.{NoExtent}
use Rattle.growth_rules.specs.Steps.{Call}
use Rattle.growth_rules.specs.Growing.{Effect, grow_of}
use Rattle.growth_rules.specs.CallFacts.{Leaves, Changes}
use Rattle.growth_rules.proofs.CallLaws.{refusal_leaves, unchanged_leaves, changed_changes, change_counted, answer_home}
use Rattle.growth_rules.proofs.ValidityLaws.{grow_valid}
use Rattle.growth_rules.specs.Moments.{moments}
use Rattle.growth_rules.specs.Readings.{byte_piece}
use Rattle.growth_rules.proofs.MomentLaws.{reading_kept, byte_piece_kept}
use Rattle.promises.specs.Numbers.{IsFirst}
use Rattle.promises.specs.Calls.{growth_numbers}
use Rattle.promises.proofs.CallLaws as calls
use Rattle.promises.specs.GrowthLaws as growing

-- "Growth: 1, 10, 15 to 19."
pub growth_number : (l : Layout) (k : Call) → IsFirst (answer_number (grow_of l k).answer) (growth_numbers l k)
growth_number = calls.growth_number

-- A call that is refused leaves the layout and the table as they were.
pub growth_keeps : (l : Layout) (k : Call) (n : ℕ) → (grow_of l k).answer ≡ refuses n → Leaves l k (grow_of l k)
growth_keeps = refusal_leaves

-- "One call makes one step". An accepted call that says that nothing changed leaves the layout and the table;
pub growth_stays : (l : Layout) (k : Call) (e : Effect) → (grow_of l k).answer ≡ gives e → e.changed ≡ false
    → Leaves l k (grow_of l k)
growth_stays = unchanged_leaves

-- one that says that the layout changed changes it by its step, to the components that `Changes` names, with the object
-- records chosen that it names.
pub growth_changes : (l : Layout) (k : Call) (e : Effect) → (grow_of l k).answer ≡ gives e → e.changed ≡ true
    → Changes l k (grow_of l k)
growth_changes = changed_changes

-- "Each change adds 1 to the generation."
pub growth_generation : (l : Layout) (k : Call) (e : Effect) → (grow_of l k).answer ≡ gives e → e.changed ≡ true
    → (grow_of l k).layout.generation ≡ l.generation + 1
growth_generation = change_counted

-- "The answer tells whether the offset now has a home".
pub growth_home : (l : Layout) (k : Call) (e : Effect) → (grow_of l k).answer ≡ gives e
    → e.home ≡ is_given (home_of k.offset (view (grow_of l k).layout))
growth_home = answer_home

-- "Choosing S targets takes the S usable ones with the lowest targets": each object chosen is the next one of a usable
-- target;
pub growth_usable : (l : Layout) (k : Call) (g : Changes l k (grow_of l k)) (j : ℕ) → j < length g.objects
    → NextOf (usable k.mark) k.table (get_or g.objects j no_object)
growth_usable = growing.grown_usable

-- and each usable target is chosen, or S are chosen, all of them lower.
pub growth_lowest : (l : Layout) (k : Call) (g : Changes l k (grow_of l k)) (i : ℕ) → i < length k.table
    → usable k.mark (get_or k.table i no_record) ≡ true
    → ChosenOrHigher (length g.objects) g.objects (get_or k.table i no_record)
growth_lowest = growing.grown_lowest

-- "Nothing else in the table changes": the next numbers of the chosen targets go up by 1, the other records stay.
pub growth_table : (l : Layout) (k : Call) (g : Changes l k (grow_of l k))
    → (grow_of l k).table ≡ map (raised_in g.objects) k.table
growth_table = growing.grown_table

-- A call on a valid layout gives a valid layout back.
pub growth_valid : (l : Layout) (k : Call) → valid l ≡ true → valid (grow_of l k).layout ≡ true
growth_valid = grow_valid

-- Over every list of calls from a valid layout, what is read off a byte's component, one byte at a time, stays, if the
-- reading does not look at the extent;
pub all_readings : (l : Layout) (ks : List Call) → valid l ≡ true
    → {A : Type 0} (read : Component → ℕ → A) → NoExtent read → (i j : ℕ) → i ≤ j → j < length (moments l ks)
    → (b : ℕ) (a : A) → reading_of read b (view (get_or (moments l ks) i l)) ≡ some a
    → reading_of read b (view (get_or (moments l ks) j l)) ≡ some a
all_readings = reading_kept

-- so the one piece of the request of that byte alone stays. Nothing is said of the pieces of longer requests.
pub all_byte_pieces : (l : Layout) (ks : List Call) → valid l ≡ true → (i j : ℕ) → i ≤ j → j < length (moments l ks)
    → (b : ℕ) (p : Piece) → reading_of byte_piece b (view (get_or (moments l ks) i l)) ≡ some p
    → cut_pieces b 1 (view (get_or (moments l ks) j l)) ≡ p ∷ []
all_byte_pieces = byte_piece_kept
