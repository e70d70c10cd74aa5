-- What the entry points for C return and leave in lent memory: what the public calls say of the layout that was read.
use Rattle.std.specs.Prelude.{ℕ, zero, suc, ◌≤◌, ◌<◌, ◌≡◌, refl, Ok, Err, List, [], ◌∷◌}
use Rattle.std.proofs.Math.Path.{sym, ap}
use Rattle.std.proofs.Common.{◌∙◌, arith, le-leb}
use Rattle.std.proofs.Math.Option.{some}
use Rattle.std.proofs.Math.Bool.{cond}
use Rattle.std.proofs.Math.ListN.{length}
use Rattle.std.proofs.Math.Seq.{sets}
use Rattle.std.proofs.lemmas.Bool.{lt-leb}
use Rattle.refusals.specs.declared.Refusal.{Refusal}
use Rattle.refusals.specs.Refusals.{number_of}
use Rattle.refusals.specs.Numbered.{numbered}
use Rattle.paging.specs.Paging.{written_page, write_refusal, out_refusal, out_answer}
use Rattle.mapping.specs.declared.ObjectHome.{ObjectHome}
use Rattle.mapping.specs.Answers.{gives, refuses, answer, answer_number}
use Rattle.mapping.specs.AnswerLaws.{gives_or_refuses, answer_gives}
use Rattle.mapping.specs.Homes.{Home, home_of}
use Rattle.mapping.specs.Lookup.{lookup_refusal, home_says, lookup_says, lookup_of}
use Rattle.mapping.specs.Back.{back_refusal, byte_of, back_says, back_of}
use Rattle.mapping.specs.Cutting.{cut_refusal, cut_pieces, cut_count, all_numbers, cut_says, cut_of}
use Rattle.growth_rules.proofs.CallLaws.{refused_some}
use Rattle.growth_rules.specs.Steps.{Call}
use Rattle.growth_rules.specs.Growing as growing
use Rattle.growth_rules.specs.Growing.{Outcome}
use Rattle.growth.specs.declared.Effect.{Effect}
use Rattle.moorsickle.specs.Answers.{grow_says}
use Rattle.gateway.specs.Host.{host_reading, host_layout, host_components, reading_first, lent_after, home_numbers}
use Rattle.gateway.specs.Host.{lookup_number, home_after, back_number, offset_after, cut_number, pieces_after, count_after}
use Rattle.gateway.specs.Host.{page_number, buffer_after, written_after}
use Rattle.gateway.proofs.HostLaws.{reading_number, own_number, lent_stays, lookup_same, back_same, cut_same, page_same}
use Rattle.gateway.specs.HostGrowth.{word_table, with_next_words, host_grown, pages_of, room_number, later_number, home_number}
use Rattle.gateway.specs.HostGrowth.{grow_number, table_after, grown_after, answer_after}
use Rattle.gateway.proofs.HostGrowthLaws.{words_afterwards}

-- A refusal of the reading comes first.
first_refused : (pages : List ℕ) (own n : ℕ) → 0 < n → (host_reading pages).refusal ≡ n → reading_first pages own ≡ n
first_refused pages own n h e = sym (reading_number pages own (λ z. omega (arith, z, e, h))) ∙ e

-- Under the number of a refusal lent memory stays,
kept : {A : Type 0} {n : ℕ} (m : ℕ) (new lent : A) → 0 < m → n ≡ m → lent_after n new lent ≡ lent
kept {A} {n} m new lent h e = sym (lent_stays n new lent (λ z. omega (arith, z, e, h)))

-- and under 0 it holds what is new.
stored : {A : Type 0} {n : ℕ} (new lent : A) → n ≡ 0 → lent_after n new lent ≡ new
unfolding lent_after
stored {A} {n} new lent z = rw z

-- An answer that refuses has its number, which is not 0.
pub refuses_under : {A : Type 0} (n m : ℕ) (a : A) → refuses n ≡ answer m a → (m ≡ n) × (0 < n)
refuses_under n zero a e = absurd (gives_or_refuses a n (sym e))
refuses_under n (suc m) a e = let same : n ≡ suc m = ap answer_number e in (sym same, omega arith)

module _ (pages : List ℕ) (b : ℕ) (home : List ℕ) where
  -- A lookup that is refused by n.
  pub lookup_kept : (n : ℕ) → 0 < n → lookup_number pages b ≡ n
      → (lookup_number pages b ≡ n) × (home_after pages b home ≡ home)
  unfolding home_after
  lookup_kept n h e = (e, kept n (home_numbers (home_of b (host_components pages))) home h e)

  lookup_first : (n : ℕ) → 0 < n → (host_reading pages).refusal ≡ n → lookup_number pages b ≡ n
  unfolding lookup_number
  lookup_first n h e = first_refused pages (lookup_refusal b (host_components pages)) n h e

  lookup_found : (host_reading pages).refusal ≡ 0 → (h : Home) → gives (some h) ≡ lookup_of b (host_layout pages)
      → (lookup_number pages b ≡ 0) × (home_after pages b home ≡ home_numbers (some h))
  unfolding home_after
  lookup_found z h e =
      let found = home_of b (host_components pages) in
      let g = answer_gives (lookup_number pages b) found (some h) (sym (e ∙ lookup_same pages z b)) in
      (g.0, stored (home_numbers found) home g.0 ∙ ap home_numbers g.1)

  -- A lookup for C.
  pub c_lookup :
      ((n : ℕ) → 0 < n → (host_reading pages).refusal ≡ n → (lookup_number pages b ≡ n) × (home_after pages b home ≡ home))
      × ((host_reading pages).refusal ≡ 0
      → ((e : Refusal) → lookup_says (Err e) ≡ lookup_of b (host_layout pages)
      → (lookup_number pages b ≡ number_of e) × (home_after pages b home ≡ home))
      × ((h : ObjectHome) → lookup_says (Ok h) ≡ lookup_of b (host_layout pages)
      → (lookup_number pages b ≡ 0) × (home_after pages b home ≡ h.target ∷ h.number ∷ h.byte ∷ [])))
  unfolding lookup_says
  c_lookup = (
    λ n h e. lookup_kept n h (lookup_first n h e),
    λ z. (
      λ r e. let found = home_of b (host_components pages) in
          let u = refuses_under (number_of r) (lookup_number pages b) found (e ∙ lookup_same pages z b) in
          lookup_kept (number_of r) u.1 u.0,
      λ h e. lookup_found z (home_says h) e,
    ),
  )

module _ (pages : List ℕ) (h : Home) (offset : ℕ) where
  -- A way back that is refused by n.
  pub back_kept : (n : ℕ) → 0 < n → back_number pages h ≡ n
      → (back_number pages h ≡ n) × (offset_after pages h offset ≡ offset)
  unfolding offset_after
  back_kept n p e = (e, kept n (byte_of h (host_components pages)) offset p e)

  back_first : (n : ℕ) → 0 < n → (host_reading pages).refusal ≡ n → back_number pages h ≡ n
  unfolding back_number
  back_first n p e = first_refused pages (back_refusal h (host_components pages)) n p e

  back_found : (host_reading pages).refusal ≡ 0 → (b : ℕ) → gives b ≡ back_of h (host_layout pages)
      → (back_number pages h ≡ 0) × (offset_after pages h offset ≡ b)
  unfolding offset_after
  back_found z b e =
      let found = byte_of h (host_components pages) in
      let g = answer_gives (back_number pages h) found b (sym (e ∙ back_same pages z h)) in
      (g.0, stored found offset g.0 ∙ g.1)

  -- A way back for C.
  pub c_back :
      ((n : ℕ) → 0 < n → (host_reading pages).refusal ≡ n
      → (back_number pages h ≡ n) × (offset_after pages h offset ≡ offset))
      × ((host_reading pages).refusal ≡ 0
      → ((e : Refusal) → back_says (Err e) ≡ back_of h (host_layout pages)
      → (back_number pages h ≡ number_of e) × (offset_after pages h offset ≡ offset))
      × ((b : ℕ) → back_says (Ok b) ≡ back_of h (host_layout pages)
      → (back_number pages h ≡ 0) × (offset_after pages h offset ≡ b)))
  unfolding back_says
  c_back = (
    λ n p e. back_kept n p (back_first n p e),
    λ z. (
      λ r e. let found = byte_of h (host_components pages) in
          let u = refuses_under (number_of r) (back_number pages h) found (e ∙ back_same pages z h) in
          back_kept (number_of r) u.1 u.0,
      λ b e. back_found z b e,
    ),
  )

module _ (pages : List ℕ) (a m : ℕ) (room : List ℕ) (count : ℕ) where
  -- The call returns n, and leaves what was lent.
  abbrev pub CutKept : ℕ → Type 0
  CutKept n =
      (cut_number pages a m room ≡ n) × (pieces_after pages a m room ≡ room) × (count_after pages a m room count ≡ count)

  -- A request that is refused by n.
  pub cut_kept : (n : ℕ) → 0 < n → cut_number pages a m room ≡ n → CutKept n
  unfolding pieces_after count_after
  cut_kept n h e = (
    e,
    kept n (sets room 0 (all_numbers (cut_pieces a m (host_components pages)))) room h e,
    kept n (cut_count a m (host_components pages)) count h e,
  )

  cut_first : (n : ℕ) → 0 < n → (host_reading pages).refusal ≡ n → cut_number pages a m room ≡ n
  unfolding cut_number
  cut_first n h e = first_refused pages (cut_refusal a m (length room) (host_components pages)) n h e

  cut_given : (host_reading pages).refusal ≡ 0 → (k : ℕ) → gives k ≡ cut_of a m (length room) (host_layout pages)
      → (cut_number pages a m room ≡ 0)
      × (pieces_after pages a m room ≡ sets room 0 (all_numbers (cut_pieces a m (host_components pages))))
      × (count_after pages a m room count ≡ k)
  unfolding pieces_after count_after
  cut_given z k e =
      let many = cut_count a m (host_components pages) in
      let g = answer_gives (cut_number pages a m room) many k (sym (e ∙ cut_same pages z a m room)) in (
        g.0,
        stored (sets room 0 (all_numbers (cut_pieces a m (host_components pages)))) room g.0,
        stored many count g.0 ∙ g.1,
      )

  -- A request cut for C.
  pub c_cut :
      ((n : ℕ) → 0 < n → (host_reading pages).refusal ≡ n → CutKept n)
      × ((host_reading pages).refusal ≡ 0
      → ((e : Refusal) → cut_says (Err e) ≡ cut_of a m (length room) (host_layout pages) → CutKept (number_of e))
      × ((k : ℕ) → cut_says (Ok k) ≡ cut_of a m (length room) (host_layout pages)
      → (cut_number pages a m room ≡ 0)
      × (pieces_after pages a m room ≡ sets room 0 (all_numbers (cut_pieces a m (host_components pages))))
      × (count_after pages a m room count ≡ k)))
  unfolding cut_says
  c_cut = (
    λ n h e. cut_kept n h (cut_first n h e),
    λ z. (
      λ r e. let u = refuses_under (number_of r) (cut_number pages a m room) (cut_count a m (host_components pages))
          (e ∙ cut_same pages z a m room) in
          cut_kept (number_of r) u.1 u.0,
      λ k e. cut_given z k e,
    ),
  )

-- The answer of a page out that is refused has its number, which is not 0;
pub out_refused : (n m : ℕ) (page : List ℕ) → Err n ≡ out_answer m page → (m ≡ n) × (0 < n)
unfolding out_answer
out_refused n zero page e = cc
out_refused n (suc m) page e = let same : n ≡ suc m = cc in (sym same, omega arith)

-- one that is not refused has the length of the page.
out_given : (k m : ℕ) (page : List ℕ) → Ok k ≡ out_answer m page → (m ≡ 0) × (length page ≡ k)
unfolding out_answer
out_given k zero page e = (refl, cc)
out_given k (suc m) page e = cc

module _ (pages : List ℕ) (k : ℕ) (buffer : List ℕ) (written : ℕ) where
  -- The call returns n, and leaves what was lent.
  abbrev pub PageKept : ℕ → Type 0
  PageKept n =
      (page_number pages k buffer ≡ n) × (buffer_after pages k buffer ≡ buffer)
      × (written_after pages k buffer written ≡ written)

  -- A page out that is refused by n.
  pub page_kept : (n : ℕ) → 0 < n → page_number pages k buffer ≡ n → PageKept n
  unfolding buffer_after written_after
  page_kept n h e =
      let page = written_page (host_layout pages) k in
      (e, kept n (sets buffer 0 page) buffer h e, kept n (length page) written h e)

  page_first : (n : ℕ) → 0 < n → (host_reading pages).refusal ≡ n → page_number pages k buffer ≡ n
  unfolding page_number
  page_first n h e = first_refused pages (write_refusal (host_layout pages) k (length buffer)) n h e

  page_given : (host_reading pages).refusal ≡ 0 → (m : ℕ)
      → Ok m ≡ out_answer (out_refusal (host_layout pages) k (length buffer))
      (written_page (host_layout pages) k)
      → (page_number pages k buffer ≡ 0)
      × (buffer_after pages k buffer ≡ sets buffer 0 (written_page (host_layout pages) k))
      × (written_after pages k buffer written ≡ m)
  unfolding buffer_after written_after
  page_given z m e =
      let page = written_page (host_layout pages) k in
      let g = out_given m (out_refusal (host_layout pages) k (length buffer)) page e in
      let zero_number = sym (page_same pages z k buffer) ∙ g.0 in
      (zero_number, stored (sets buffer 0 page) buffer zero_number, stored (length page) written zero_number ∙ g.1)

  -- A page out for C.
  pub c_page :
      ((n : ℕ) → 0 < n → (host_reading pages).refusal ≡ n → PageKept n)
      × ((host_reading pages).refusal ≡ 0
      → ((e : Refusal)
      → numbered (Err e) ≡ out_answer (out_refusal (host_layout pages) k (length buffer))
      (written_page (host_layout pages) k)
      → PageKept (number_of e))
      × ((m : ℕ)
      → numbered (Ok m) ≡ out_answer (out_refusal (host_layout pages) k (length buffer))
      (written_page (host_layout pages) k)
      → (page_number pages k buffer ≡ 0)
      × (buffer_after pages k buffer ≡ sets buffer 0 (written_page (host_layout pages) k))
      × (written_after pages k buffer written ≡ m)))
  c_page = (
    λ n h e. page_kept n h (page_first n h e),
    λ z. (
      λ r e. let l = host_layout pages in
          let u = out_refused (number_of r) (out_refusal l k (length buffer)) (written_page l k) e in
          page_kept (number_of r) u.1 (sym (page_same pages z k buffer) ∙ u.0),
      λ m e. page_given z m e,
    ),
  )

module _ (pages : List ℕ) (offset mark : ℕ) (table grown answers : List ℕ) where
  -- What growth gives of the layout that was read, and the number that the call returns.
  abbrev pub out : Outcome
  out = host_grown pages offset mark table

  abbrev number : ℕ
  number = grow_number pages offset mark table (length grown)

  -- The call returns n, and leaves what was lent.
  abbrev pub GrowKept : ℕ → Type 0
  GrowKept n =
      (number ≡ n) × (table_after number table out ≡ table) × (grown_after number grown out ≡ grown)
      × (answer_after number answers out ≡ answers)

  -- Growth that is refused by n.
  grow_kept : (n : ℕ) → 0 < n → number ≡ n → GrowKept n
  unfolding table_after grown_after answer_after
  grow_kept n h e = (
    e,
    kept n (with_next_words table out.table) table h e,
    kept n (sets grown 0 (pages_of out.layout)) grown h e,
    kept n (sets answers 0 (length (pages_of out.layout) ∷ home_number out.answer ∷ [])) answers h e,
  )

  grow_first : (n : ℕ) → 0 < n → (host_reading pages).refusal ≡ n → number ≡ n
  unfolding grow_number
  grow_first n h e =
      first_refused pages (later_number out.answer (room_number out.layout (length grown))) n h e

  -- The number if the reading gives a layout.
  grow_own : (host_reading pages).refusal ≡ 0
      → number ≡ later_number out.answer (room_number out.layout (length grown))
  unfolding grow_number
  grow_own z = own_number pages (later_number out.answer (room_number out.layout (length grown))) z

  -- The number if growth refuses,
  pub grow_refused : (host_reading pages).refusal ≡ 0 → (n : ℕ) → refuses n ≡ out.answer → GrowKept n
  grow_refused z n e =
      let k : Call = record { offset = offset; mark = mark; table = word_table table } in
      grow_kept n (refused_some (host_layout pages) k n (sym e)) (grow_own z ∙ rw (← e))

  -- and if it accepts.
  grow_accepted : (host_reading pages).refusal ≡ 0 → (d : growing.Effect) → gives d ≡ out.answer
      → number ≡ room_number out.layout (length grown)
  grow_accepted z d e = grow_own z ∙ rw (← e)

  grow_given : (host_reading pages).refusal ≡ 0 → (d : growing.Effect) → gives d ≡ out.answer
      → length (pages_of out.layout) ≤ length grown
      → (number ≡ 0) × (table_after number table out ≡ with_next_words table out.table)
      × (word_table (with_next_words table out.table) ≡ out.table)
      × (grown_after number grown out ≡ sets grown 0 (pages_of out.layout))
      × (answer_after number answers out ≡ sets answers 0 (length (pages_of out.layout) ∷ cond d.home 1 0 ∷ []))
  unfolding table_after grown_after answer_after
  grow_given z d e h =
      let bytes = length (pages_of out.layout) in
      let n : number ≡ 0 = grow_accepted z d e ∙ rw (le-leb bytes (length grown) h) in
      let home : home_number out.answer ≡ cond d.home 1 0 = rw (← e) in (
        n,
        stored (with_next_words table out.table) table n,
        words_afterwards (host_layout pages) offset mark table,
        stored (sets grown 0 (pages_of out.layout)) grown n,
        stored (sets answers 0 (bytes ∷ home_number out.answer ∷ [])) answers n
            ∙ ap (λ (x : ℕ). sets answers 0 (bytes ∷ x ∷ [])) home,
      )

  -- Growth for C.
  pub c_grow :
      ((n : ℕ) → 0 < n → (host_reading pages).refusal ≡ n → GrowKept n)
      × ((host_reading pages).refusal ≡ 0
      → ((e : Refusal) → grow_says (Err e) ≡ out.answer → GrowKept (number_of e))
      × ((e : Effect) → grow_says (Ok e) ≡ out.answer
      → (length grown < length (pages_of out.layout) → GrowKept 20)
      × (length (pages_of out.layout) ≤ length grown
      → (number ≡ 0) × (table_after number table out ≡ with_next_words table out.table)
      × (word_table (with_next_words table out.table) ≡ out.table)
      × (grown_after number grown out ≡ sets grown 0 (pages_of out.layout))
      × (answer_after number answers out ≡ sets answers 0 (length (pages_of out.layout) ∷ cond e.home 1 0 ∷ [])))))
  c_grow = (
    λ n h e. grow_kept n h (grow_first n h e),
    λ z. (
      λ r e. grow_refused z (number_of r) e,
      λ e q. let d : growing.Effect = record { home = e.home; changed = e.changed } in (
        λ h. grow_kept 20 (omega arith)
            (grow_accepted z d q ∙ rw (lt-leb (length (pages_of out.layout)) (length grown) h)),
        λ h. grow_given z d q h,
      ),
    ),
  )
