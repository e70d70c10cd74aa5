-- What `write_page` asks of a layout, in the terms of the definitions: is there a page, and is the buffer long enough?
use Prim.Native.Nat.{ℕ, ◌+◌, ◌≤◌, ◌<◌}
use mathlib.Core.Path.{◌≡◌, sym, ap, ◌∙◌}
use mathlib.Core.List.{List, [], ◌∷◌}
use mathlib.Core.Bool.{Bool, true, false, not}
use native.Mathlib.Omega.{arith}
use lib.ListN.{length, take, drop}
use lib.Seq.{sets}
use borrow.Author.Tests.{le-leb, lt-leb}
use Rattle.std.proofs.Common.{ne_eqb}
use Rattle.std.specs.Prelude.{◌==◌}
use Rattle.std.specs.List.{sum}
use Rattle.lists.specs.Slices.{sets_append}
use Rattle.layout.specs.declared.Component.{Component}
use Rattle.layout.specs.declared.Layout.{Layout}
use Rattle.layout.specs.Records.{view}
use Rattle.layout.specs.Facts.{Valid}
use Rattle.page.specs.declared.Head.{Head}
use Rattle.page.specs.Bytes.{components_bytes, head_bytes, page_bytes}
use Rattle.page.specs.BytesLaws.{length_components_bytes, length_head}
use Rattle.paging.specs.Paging.{in_page, sizes_of, from_page, first_page, later_pages, is_some, written_page}
use Rattle.paging.specs.Paging.{write_refusal}
use Rattle.paging.specs.PagingLaws.{total_sum, length_written, written_le, number_few}

-- The head and after it the components: both calls have written the page.
pub page_stored : (b b₁ b₂ : List ℕ) (h : Head) (cs : List Component) → b₁ ≡ sets b 0 (head_bytes h)
    → b₂ ≡ sets b₁ 16 (components_bytes cs) → b₂ ≡ sets b 0 (page_bytes h cs)
unfolding page_bytes
page_stored b b₁ b₂ h cs p q = q ∙ rw (p, sets_append, length_head)

-- Components are left if a list of them is not empty.
pub some_left : (cs : List Component) (empty : Bool) → empty ≡ (length cs == 0) → not empty ≡ is_some cs
some_left [] empty e = rw e
some_left (c ∷ cs) empty e = rw (e, ne_eqb (length (c ∷ cs)) 0 (λ h. omega arith))

-- What is in page k, which is not refused by 4: its components, and those of later pages.
pub record Page (l : Layout) (k : ℕ) (components later : List Component) : Type 0 where
  pub first : components ≡ first_page (from_page k (view l))
  pub others : later ≡ later_pages (from_page k (view l))
  pub some : is_some (from_page k (view l)) ≡ true

pub page_at : (l : Layout) (k : ℕ) (all rest : List Component) (empty : Bool) (n : ℕ)
    (components later : List Component)
    → all ≡ view l → rest ≡ from_page k all → empty ≡ (length rest == 0) → empty ≡ false → n ≡ in_page (sizes_of rest)
    → components ≡ take n rest → later ≡ drop n rest → Page l k components later
page_at l k all rest empty n components later a r e f m p q =
    let w : rest ≡ from_page k (view l) = rw (r, a) in
    record {
      first = p ∙ rw (m, w);
      others = q ∙ rw (m, w);
      some = ap is_some (sym w) ∙ sym (some_left rest empty e) ∙ rw f;
    }

-- Refusal 4: there is no page k if no component is left for it.
pub no_page : (l : Layout) (k : ℕ) (all rest : List Component) (empty : Bool) (room : ℕ)
    → all ≡ view l → rest ≡ from_page k all → empty ≡ (length rest == 0) → empty ≡ true → write_refusal l k room ≡ 4
unfolding write_refusal
no_page l k all rest empty room a r e f =
    let w : rest ≡ from_page k (view l) = rw (r, a) in
    let none : is_some (from_page k (view l)) ≡ false = ap is_some (sym w) ∙ sym (some_left rest empty e) ∙ rw f in
    rw none

module _ (l : Layout) (k : ℕ) (cs later : List Component) (p : Page l k cs later) where
  -- Its bytes, by the sizes of its components; it has at most 512.
  pub size_is : 16 + sum (sizes_of cs) ≡ length (written_page l k)
  size_is = rw p.first (sym (length_written l k ∙ rw total_sum))

  pub size_le : 16 + sum (sizes_of cs) ≤ 512
  size_le = omega (arith, size_is, written_le l k)

  -- Refusal 20 applies if the buffer is shorter, and none if it is not.
  pub too_short : (room : ℕ) → room < 16 + sum (sizes_of cs) → write_refusal l k room ≡ 20
  unfolding write_refusal
  too_short room s = rw (p.some, lt-leb (length (written_page l k)) room (omega (arith, size_is)))

  pub long_enough : (room : ℕ) → 16 + sum (sizes_of cs) ≤ room → write_refusal l k room ≡ 0
  unfolding write_refusal
  long_enough room s = rw (p.some, le-leb (length (written_page l k)) room (omega (arith, size_is)))

  -- The buffer then has room for its components after the head.
  pub room_after : 16 + length (components_bytes cs) ≡ 16 + sum (sizes_of cs)
  room_after = rw (length_components_bytes, total_sum)

  -- Its number is below 16 if the layout is valid.
  pub number_fits : Valid l → k < 16
  number_fits v = number_few l k v p.some

  -- Its head and its components are the page.
  pub page_is : (empty : Bool) → empty ≡ (length later == 0)
      → page_bytes record { more = not empty; number = k; count = length cs; generation = l.generation } cs
      ≡ written_page l k
  unfolding written_page
  page_is empty e = rw (some_left later empty e, p.first, p.others)
