-- Laws of the host's calls: a layout that was read is valid; what a call returns and leaves in lent memory by the
-- reading; and that the calls give what the library's calls give of the layout that was read.
use Rattle.std.specs.Prelude.{ℕ, zero, suc, ◌≡◌, refl, List, true, length}
use Rattle.std.proofs.Common.{sym}
use Rattle.std.proofs.lemmas.List.Edits.{sets}
use Rattle.layout.specs.Rules.{valid}
use Rattle.collector.specs.Runs.{host_cut}
use Rattle.collector.proofs.ValidRuns.{run_valid}
use Rattle.mapping.specs.declared.Piece.{Piece}
use Rattle.mapping.specs.Answers.{answer}
use Rattle.mapping.specs.Homes.{Home, home_of}
use Rattle.mapping.specs.Lookup.{lookup_refusal, lookup_of}
use Rattle.mapping.specs.Back.{back_refusal, byte_of, back_of}
use Rattle.mapping.specs.Cutting.{cut_refusal, cut_count, cut_of, all_numbers, room_after}
use Rattle.paging.specs.Paging.{write_refusal, out_refusal, out_buffer}
use Rattle.gateway.specs.Host.{host_reading, host_layout, host_components, first_of, reading_first, lent_after}
use Rattle.gateway.specs.Host.{lookup_number, back_number, cut_number, page_number}

-- A layout that was read from the host's bytes is valid.
pub host_valid : (pages : List ℕ) → (host_reading pages).refusal ≡ 0 → valid (host_layout pages) ≡ true
host_valid = run_valid host_cut

-- If the reading is refused, the number is the reading's,
first_refused : (m n : ℕ) → (m ≡ 0 → ⊥) → m ≡ first_of m n
first_refused zero n h = absurd (h refl)
first_refused (suc m) n h = refl

pub reading_number : (pages : List ℕ) (own : ℕ) → ((host_reading pages).refusal ≡ 0 → ⊥)
    → (host_reading pages).refusal ≡ reading_first pages own
unfolding reading_first
reading_number pages own h = first_refused (host_reading pages).refusal own h

-- and if it is not, the call's own.
pub own_number : (pages : List ℕ) (own : ℕ) → (host_reading pages).refusal ≡ 0 → reading_first pages own ≡ own
unfolding reading_first
own_number pages own z = rw z

-- Under the number of a refusal, lent memory stays.
pub lent_stays : {A : Type 0} (n : ℕ) (new lent : A) → (n ≡ 0 → ⊥) → lent ≡ lent_after n new lent
unfolding lent_after
lent_stays zero new lent h = absurd (h refl)
lent_stays (suc n) new lent h = refl

-- The lent numbers after a call that cuts, and the lent bytes after one that writes a page, in this form.
pub room_lent : (n : ℕ) (ps : List Piece) (room : List ℕ)
    → room_after n ps room ≡ lent_after n (sets room 0 (all_numbers ps)) room
unfolding room_after lent_after
room_lent zero ps room = refl
room_lent (suc n) ps room = refl

pub buffer_lent : (n : ℕ) (page buffer : List ℕ) → out_buffer n page buffer ≡ lent_after n (sets buffer 0 page) buffer
unfolding out_buffer lent_after
buffer_lent zero page buffer = refl
buffer_lent (suc n) page buffer = refl

-- If the pages are read without a refusal, each call answers as the library's call of that name does of the layout that
-- was read.
module _ (pages : List ℕ) (z : (host_reading pages).refusal ≡ 0) where
  pub lookup_same : (b : ℕ) → lookup_of b (host_layout pages)
      ≡ answer (lookup_number pages b) (home_of b (host_components pages))
  unfolding lookup_of lookup_number
  lookup_same b = rw (host_valid pages z, own_number pages (lookup_refusal b (host_components pages)) z)

  pub back_same : (h : Home) → back_of h (host_layout pages)
      ≡ answer (back_number pages h) (byte_of h (host_components pages))
  unfolding back_of back_number
  back_same h = rw (host_valid pages z, own_number pages (back_refusal h (host_components pages)) z)

  pub cut_same : (a m : ℕ) (room : List ℕ)
      → cut_of a m (length room) (host_layout pages) ≡ answer (cut_number pages a m room)
      (cut_count a m (host_components pages))
  unfolding cut_of cut_number
  cut_same a m room = rw (
    host_valid pages z,
    own_number pages (cut_refusal a m (length room) (host_components pages))
        z,
  )

  pub page_same : (k : ℕ) (buffer : List ℕ) → out_refusal (host_layout pages) k (length buffer)
      ≡ page_number pages k buffer
  unfolding out_refusal page_number
  page_same k buffer = rw (host_valid pages z) (sym (own_number pages
      (write_refusal (host_layout pages) k (length buffer)) z))
