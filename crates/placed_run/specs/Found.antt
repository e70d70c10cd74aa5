-- What the reading in place gives: the number that reading into a layout gives and, if that is 0, the layout's
-- generation, how many components it has, and their places.
use Prim.Native.Nat.{ℕ, zero, suc}
use Rattle.std.specs.Prelude.{◌≡◌, refl, List, Result, Ok, Err, length, take}
use Rattle.std.proofs.Common.{ap, ◌∙◌}
use Rattle.refusals.specs.declared.Refusal.{Refusal}
use Rattle.refusals.specs.Refusals.{number_of, number_in}
use Rattle.layout.specs.declared.Layout.{Layout}
use Rattle.layout.specs.Records.{packed}
use Rattle.collector.specs.Runs.{read_run, host_cut}
use Rattle.in_place.specs.Places.{components_at, ValidAt}
use Rattle.placed_run.specs.declared.Found.{Found}

-- What a reading says: the number of its refusal, or 0; the generation, and the number of components.
pub record Findings : Type 0 where
  pub refusal : ℕ
  pub generation : ℕ
  pub count : ℕ

-- A reading that is refused by a number has found nothing.
abbrev pub none_found : ℕ → Findings
none_found n = record { refusal = n; generation = 0; count = 0 }

-- What an answer says.
abbrev pub found_says : Result Found Refusal → Findings
found_says (Ok f) = record { refusal = 0; generation = f.generation; count = f.count }
found_says (Err e) = none_found (number_of e)

-- What is found, by the number of the reading and the layout that is read.
unfoldable pub found_by : ℕ → Layout → Findings
found_by zero l = record { refusal = 0; generation = l.generation; count = l.count }
found_by (suc n) l = none_found (suc n)

-- What is found in the host's bytes: the number is that of reading them into a layout; if it is 0, the generation and
-- the number of components are that layout's, else they are 0.
unfoldable pub found_of : List ℕ → Findings
found_of s = found_by (read_run host_cut s).refusal (read_run host_cut s).layout

-- The answer is what is found in the bytes. If it is no refusal, the layout that is read has the components at the first
-- of the 16 places, and is valid. What is in the other places, and in all of them under a refusal, is left open: the
-- array is scratch memory, which no public call shows.
pub record Finds (s : List ℕ) (r : Result Found Refusal) (places : List ℕ) : Type 0 where
  pub answer : found_says r ≡ found_of s
  pub layout : number_in r ≡ 0
      → (read_run host_cut s).layout ≡ packed (found_says r).generation (components_at s (take (found_says r).count places))
  pub valid_at : number_in r ≡ 0 → ValidAt s (found_says r).count places
  pub room : length places ≡ 16

-- The number of what is found is the number of the reading,
by_number : (n : ℕ) (l : Layout) → (found_by n l).refusal ≡ n
unfolding found_by
by_number zero l = refl
by_number (suc n) l = refl

says_number : (r : Result Found Refusal) → number_in r ≡ (found_says r).refusal
says_number (Ok f) = refl
says_number (Err e) = refl

-- so that the answer has it.
pub finds_number : {s : List ℕ} {r : Result Found Refusal} {places : List ℕ} → Finds s r places
    → number_in r ≡ (read_run host_cut s).refusal
unfolding found_of
finds_number {s} {r} f =
    let x = read_run host_cut s in
    says_number r ∙ ap (λ (y : Findings). y.refusal) f.answer ∙ by_number x.refusal x.layout
