-- What each public call answers, by the number of its first refusal and by the cases of its answer.
use Rattle.std.specs.Prelude.{ℕ, zero, suc, ◌+◌, ◌^◌, ◌<◌, ◌≡◌, refl, Ok, Err, List, ◌++◌, ◌↔◌, true, false, cond, ◌&&◌}
use Rattle.std.specs.Prelude.{leb, ltb, length}
use Rattle.std.proofs.Common.{sym, ap, ◌∙◌, arith, ltb-true}
use Rattle.std.proofs.Math.Option.{some}
use Rattle.std.proofs.lemmas.List.Edits.{sets}
use Rattle.lists.specs.Tests.{every}
use Rattle.lists.specs.Bools.{bool_cases, both_true}
use Rattle.lists.specs.Counting.{elem}
use Rattle.layout.specs.declared.Object.{Object}
use Rattle.layout.specs.declared.Component.{Component}
use Rattle.layout.specs.declared.Layout.{Layout}
use Rattle.layout.specs.Records.{neighbours_of, records_in, view}
use Rattle.layout.specs.Fields.{field_tests}
use Rattle.layout.specs.Neighbours.{neighbours_hold}
use Rattle.layout.specs.Distinct.{same_object, distinct_hold}
use Rattle.layout.specs.Rules.{rule_broken, valid}
use Rattle.layout.specs.Holder.{last_end}
use Rattle.page.specs.Form.{page_form}
use Rattle.page.specs.Content.{head_of, components_of}
use Rattle.collector.specs.declared.Collector.{Collector}
use Rattle.collector.specs.declared.Answer.TheVariants.{More, Complete}
use Rattle.collector.specs.Collector.{gathered, collector_ok}
use Rattle.collector.specs.Taking.{number_of, is_next, added, content_refusal, open_refusal, page_refusal, page_in}
use Rattle.collector.specs.Giving.{layout_out}
use Rattle.collector.proofs.CallLaws.{answer_number_lem, taken_answer, taken_collector, refused_collector}
use Rattle.refusals.specs.declared.Refusal as code
use Rattle.refusals.specs.Refusals.{number_of as code_number}
use Rattle.paging.specs.Paging.{is_some, from_page, written_page, write_refusal, out_refusal}
use Rattle.paging.specs.Paging.{out_answer, out_number, out_buffer}
use Rattle.paging.specs.PagingLaws.{out_number_lem}
use Rattle.mapping.specs.declared.ObjectHome.{ObjectHome}
use Rattle.mapping.specs.declared.Piece.{Piece}
use Rattle.mapping.specs.Answers.{Answer, gives, refuses, answer, checked, answer_number}
use Rattle.mapping.specs.AnswerLaws.{gives_or_refuses, answer_gives, checked_gives}
use Rattle.mapping.specs.Homes.{Home, in_object, home_of, is_given}
use Rattle.mapping.specs.Lookup.{lookup_refusal, home_says, lookup_says, lookup_of}
use Rattle.mapping.specs.Back.{owner, file_byte_in, hidden_refusal, back_refusal, byte_of, back_says, back_of}
use Rattle.mapping.proofs.BackLaws.{looked_up_back, back_looked_up}
use Rattle.mapping.specs.Cutting.{refusal_by, cut_refusal, cut_pieces, cut_count, all_numbers, room_after, cut_says}
use Rattle.mapping.specs.Cutting.{cut_of}
use Rattle.mapping.specs.CutFacts.{Cut}
use Rattle.mapping.proofs.CutTheorem.{cut_right}
use Rattle.free_table.specs.Table.{table_ok}
use Rattle.growth_rules.specs.Steps.{Call}
use Rattle.growth_rules.specs.Growing as growing
use Rattle.growth_rules.specs.Growing.{step_of, grow_of}
use Rattle.growth_rules.specs.CallFacts.{Leaves, Changes}
use Rattle.growth_rules.proofs.CallLaws.{refused_some, refusal_leaves, unchanged_leaves, changed_changes, answer_home}
use Rattle.growth_rules.proofs.AcceptedLaws.{unchanged_home}
use Rattle.growth.specs.declared.Effect.{Effect}
use Rattle.moorsickle.specs.Answers.{grow_says}
use Rattle.promises.specs.Numbers.{Refusal, IsFirst, RefusedBy}
use Rattle.promises.specs.Calls.{page_in_numbers, layout_out_numbers, page_out_numbers, lookup_numbers, back_numbers}
use Rattle.promises.specs.Calls.{cut_numbers, cut_room, growth_numbers}
use Rattle.promises.proofs.NumberLaws as numbers
use Rattle.promises.proofs.NumberLaws.{refused_if, refused_unless, refused_unless_both, refused_above}
use Rattle.promises.proofs.NumberLaws.{answer_under}
use Rattle.promises.specs.LookupLaws.{lookup_gives}

-- An answer that refuses is the refusal by its number.
refused_by_lem : {A : Type 0} (x : Answer A) (n : ℕ) → 0 < n → n ≡ answer_number x → refuses n ≡ x
refused_by_lem (gives a) n h e = absurd (omega arith)
refused_by_lem {A} (refuses m) n h e = ap {B = Answer A} refuses e

-- So it refuses by n exactly if n is the first number of the call, and a condition holds.
pub refused_exactly : {A : Type 0} (x : Answer A) (rs : List Refusal) → IsFirst (answer_number x) rs
    → ((n : ℕ) → x ≡ refuses n → 0 < n) → (n : ℕ) → (refuses n ≡ x) ↔ RefusedBy n rs
refused_exactly x rs g above n = (
  λ e. (above n (sym e), (g.0, ap answer_number e ∙ g.1)),
  λ p. refused_by_lem x n p.0 (p.1.1 ∙ sym g.1),
)

-- No answer is a refusal by 0.
answer_some : {A : Type 0} (m : ℕ) (a : A) (n : ℕ) → answer m a ≡ refuses n → 0 < n
answer_some zero a n e = absurd (gives_or_refuses a n e)
answer_some (suc m) a n e = let same : suc m ≡ n = ap answer_number e in omega arith

-- The number of each call.
pub page_in_number : (c : Collector) (s : List ℕ) → IsFirst (page_refusal c s) (page_in_numbers c s)
unfolding page_refusal open_refusal content_refusal rule_broken
page_in_number c s =
    let all = gathered c ++ components_of s in (
      refl,
      refused_unless (collector_ok c) 1 (refused_if c.layout.complete 2 (refused_unless (page_form s) 3
          (refused_unless (is_next c.pages c.layout.generation (head_of s)) 4
          (refused_above (c.layout.count + length (components_of s)) 16 5
          (refused_unless (every (field_tests all)) 6
          (refused_unless (neighbours_hold (head_of s).more (neighbours_of all)) 7
          (refused_unless (distinct_hold all) 8 refl))))))),
    )

pub layout_out_number : (c : Collector) → IsFirst (layout_out c).refusal (layout_out_numbers c)
layout_out_number c =
    (refl, numbers.layout_out_number c ∙ refused_unless_both (collector_ok c) c.layout.complete 1 refl)

pub page_out_number : (l : Layout) (k room : ℕ) → IsFirst (out_refusal l k room) (page_out_numbers l k room)
unfolding out_refusal write_refusal
page_out_number l k room = (
  refl,
  refused_unless (valid l) 1 (refused_unless (is_some (from_page k (view l))) 4
      (refused_above (length (written_page l k)) room 20 refl)),
)

pub lookup_number_lem : (l : Layout) (b : ℕ) → IsFirst (answer_number (lookup_of b l)) (lookup_numbers l b)
unfolding lookup_of lookup_refusal
lookup_number_lem l b = (refl, answer_under (checked l (lookup_refusal b (view l))) _ ∙ refused_unless (valid l) 1 refl)

pub back_number_lem : (l : Layout) (o : Object) (p : ℕ)
    → IsFirst (answer_number (back_of (in_object o p) l)) (back_numbers l o p)
unfolding back_of back_refusal
back_number_lem l o p = (
  refl,
  answer_under (checked l (back_refusal (in_object o p) (view l))) _ ∙ refused_unless (valid l) 1
      (refused_unless (elem same_object o (records_in (view l))) 13 (numbers.hidden_number o p (view l))),
)

pub cut_number_lem : (l : Layout) (a m n : ℕ) → IsFirst (answer_number (cut_of a m n l)) (cut_numbers l a m n)
unfolding cut_of refusal_by
cut_number_lem l a m n = (
  refl,
  answer_under (checked l (cut_refusal a m n (view l))) _
      ∙ refused_unless (valid l) 1 refl,
)

pub growth_number : (l : Layout) (k : Call) → IsFirst (answer_number (grow_of l k).answer) (growth_numbers l k)
growth_number l k = (
  refl,
  numbers.growth_number l k ∙ refused_unless (valid l) 1 (refused_if (leb (last_end (view l)) k.offset) 10
      (refused_unless (table_ok k.table) 15 (numbers.step_number l k (step_of l k)))),
)

module _ (c : Collector) (s : List ℕ) where
  -- A page in that is refused leaves the collector,
  pub page_in_refused : IsFirst (number_of (page_in c s).answer) (page_in_numbers c s)
      × (0 < number_of (page_in c s).answer → (page_in c s).collector ≡ c)
  page_in_refused =
      let n : number_of (page_in c s).answer ≡ page_refusal c s = answer_number_lem c s in
      let g = page_in_number c s in
      ((g.0, n ∙ g.1), λ h. refused_collector c s (omega (arith, n, h)))

  -- and one that is not is taken.
  pub page_in_taken : number_of (page_in c s).answer ≡ 0
      → ((page_in c s).answer ≡ Ok (cond (head_of s).more More Complete))
      × ((page_in c s).collector ≡ added c (head_of s) (components_of s))
  page_in_taken z = let n = sym (answer_number_lem c s) ∙ z in (taken_answer c s n, taken_collector c s n)

-- A page out: by its number it is refused and the buffer stays,
pub page_out_refused : (l : Layout) (k : ℕ) (buffer : List ℕ)
    → let n = out_refusal l k (length buffer) in
    IsFirst (out_number (out_answer n (written_page l k))) (page_out_numbers l k (length buffer))
    × (0 < n → out_buffer n (written_page l k) buffer ≡ buffer)
page_out_refused l k buffer =
    let n = out_refusal l k (length buffer) in
    let g = page_out_number l k (length buffer) in
    ((g.0, out_number_lem n (written_page l k) ∙ g.1), λ h. numbers.buffer_kept n (written_page l k) buffer h)

-- or it is written.
pub page_out_written : (n : ℕ) (page buffer : List ℕ) → n ≡ 0
    → (out_answer n page ≡ Ok (length page)) × (out_buffer n page buffer ≡ sets buffer 0 page)
unfolding out_answer out_buffer
page_out_written zero page buffer z = (refl, refl)
page_out_written (suc n) page buffer z = absurd (omega arith)

-- A lookup that gives something is of a valid layout.
lookup_valid : (l : Layout) (b : ℕ) (h : Home) → lookup_of b l ≡ gives (some h) → valid l ≡ true
unfolding lookup_of
lookup_valid l b h e = (checked_gives l (lookup_refusal b (view l)) (home_of b (view l)) (some h) e).0

-- No lookup is refused by 0.
pub lookup_some_number : (l : Layout) (b n : ℕ) → lookup_of b l ≡ refuses n → 0 < n
unfolding lookup_of
lookup_some_number l b n e = answer_some (checked l (lookup_refusal b (view l))) (home_of b (view l)) n e

-- The cases of a lookup.
pub lookup_says_lem : (l : Layout) (b : ℕ)
    → ((h : ObjectHome) → (lookup_says (Ok h) ≡ lookup_of b l)
    ↔ ((valid l ≡ true) × (home_of b (view l) ≡ some (home_says h))))
    × ((e : code.Refusal) → (lookup_says (Err e) ≡ lookup_of b l) ↔ RefusedBy (code_number e) (lookup_numbers l b))
unfolding lookup_says
lookup_says_lem l b = (
  λ h. (
    λ e. let v = lookup_valid l b (home_says h) (sym e) in (v, (lookup_gives l v b (home_says h)).0 (sym e)),
    λ p. sym ((lookup_gives l p.0 b (home_says h)).1 p.1),
  ),
  λ e. refused_exactly (lookup_of b l) (lookup_numbers l b) (lookup_number_lem l b) (lookup_some_number l b)
      (code_number e),
)

-- A byte that is not hidden is below 2^64.
below_if : (begin end b : ℕ) → hidden_refusal begin end b ≡ 0 → b < 2 ^ 64
unfolding hidden_refusal
below_if begin end b z =
    bool_cases (leb begin b && ltb b end && ltb b (2 ^ 64))
    (λ t. ltb-true b (2 ^ 64) (both_true (leb begin b && ltb b end) (ltb b (2 ^ 64)) t).1)
    (λ t. absurd (omega (arith, rw t at z)))

-- So the way back gives a byte below 2^64.
back_below : (o : Object) (p : ℕ) (cs : List Component) → back_refusal (in_object o p) cs ≡ 0
    → byte_of (in_object o p) cs < 2 ^ 64
unfolding back_refusal byte_of
back_below o p cs z =
    let c = owner o cs in
    bool_cases (elem same_object o (records_in cs))
    (λ t. below_if c.begin c.end (file_byte_in c o p) (rw t at z))
    (λ t. absurd (omega (arith, rw t at z)))

-- If the way back gives a byte, the layout is valid and the byte is below 2^64.
back_given : (l : Layout) (o : Object) (p b : ℕ) → back_of (in_object o p) l ≡ gives b → (valid l ≡ true) × (b < 2 ^ 64)
unfolding back_of
back_given l o p b e =
    let cs = view l in
    let h = in_object o p in
    let v = checked_gives l (back_refusal h cs) (byte_of h cs) b e in
    let a = answer_gives (back_refusal h cs) (byte_of h cs) b v.1 in
    (v.0, omega (arith, back_below o p cs a.0, a.1))

-- No way back is refused by 0.
pub back_some_number : (l : Layout) (h : Home) (n : ℕ) → back_of h l ≡ refuses n → 0 < n
unfolding back_of
back_some_number l h n e = answer_some (checked l (back_refusal h (view l))) (byte_of h (view l)) n e

-- The cases of the way back.
pub back_says_lem : (l : Layout) (o : Object) (p : ℕ)
    → ((b : ℕ) → (back_says (Ok b) ≡ back_of (in_object o p) l)
    ↔ ((valid l ≡ true) × (b < 2 ^ 64) × (home_of b (view l) ≡ some (in_object o p))))
    × ((e : code.Refusal) → (back_says (Err e) ≡ back_of (in_object o p) l) ↔ RefusedBy (code_number e)
    (back_numbers l o p))
unfolding back_says
back_says_lem l o p =
    let h = in_object o p in (
      λ b. (
        λ e. let v = back_given l o p b (sym e) in
            (v.0, v.1, (lookup_gives l v.0 b h).0 (back_looked_up l h b (sym e))),
        λ q. sym (looked_up_back l b h q.1 ((lookup_gives l q.0 b h).1 q.2)),
      ),
      λ e. refused_exactly (back_of h l) (back_numbers l o p) (back_number_lem l o p) (back_some_number l h)
          (code_number e),
    )

-- Under 0 the lent numbers hold the pieces.
room_cut : (n : ℕ) (ps : List Piece) (room : List ℕ) → n ≡ 0 → room_after n ps room ≡ sets room 0 (all_numbers ps)
unfolding room_after
room_cut zero ps room z = refl
room_cut (suc n) ps room z = absurd (omega arith)

module _ (l : Layout) (a m : ℕ) (room : List ℕ) where
  -- The number of a request that is refused is not 0,
  pub cut_some_number : (n : ℕ) → cut_of a m (length room) l ≡ refuses n → 0 < n
  unfolding cut_of
  cut_some_number n e = answer_some (checked l (cut_refusal a m (length room) (view l))) (cut_count a m (view l)) n e

  -- and its lent numbers stay;
  pub cut_keeps : 0 < answer_number (cut_of a m (length room) l) → cut_room l a m room ≡ room
  unfolding cut_of
  cut_keeps h =
      let n = checked l (cut_refusal a m (length room) (view l)) in
      numbers.room_kept n (cut_pieces a m (view l)) room (rw (answer_under n (cut_count a m (view l))) at h)

  pub cut_refused : (n : ℕ) → refuses n ≡ cut_of a m (length room) l → cut_room l a m room ≡ room
  cut_refused n e =
      let same : n ≡ answer_number (cut_of a m (length room) l) = ap answer_number e in
      cut_keeps (omega (arith, same, cut_some_number n (sym e)))

  -- those of one that is accepted hold the pieces.
  cut_filled : (k : ℕ) → cut_of a m (length room) l ≡ gives k
      → cut_room l a m room ≡ sets room 0 (all_numbers (cut_pieces a m (view l)))
  unfolding cut_of
  cut_filled k e =
      let n = checked l (cut_refusal a m (length room) (view l)) in
      room_cut n (cut_pieces a m (view l)) room (answer_gives n (cut_count a m (view l)) k e).0

  -- The cases of cutting.
  pub cut_says_lem :
      ((k : ℕ) → cut_says (Ok k) ≡ cut_of a m (length room) l
      → Cut a m k (view l) (cut_pieces a m (view l))
      × (cut_room l a m room ≡ sets room 0 (all_numbers (cut_pieces a m (view l)))))
      × ((e : code.Refusal) → (cut_says (Err e) ≡ cut_of a m (length room) l)
      ↔ RefusedBy (code_number e) (cut_numbers l a m (length room)))
      × ((e : code.Refusal) → cut_says (Err e) ≡ cut_of a m (length room) l → cut_room l a m room ≡ room)
  unfolding cut_says
  cut_says_lem = (
    λ k e. (cut_right l a m (length room) k (sym e), cut_filled k (sym e)),
    λ e. refused_exactly (cut_of a m (length room) l) (cut_numbers l a m (length room))
        (cut_number_lem l a m (length room)) cut_some_number (code_number e),
    λ e. cut_refused (code_number e),
  )

module _ (l : Layout) (k : Call) where
  -- The cases of growth: it is refused,
  pub growth_refuses : (e : code.Refusal)
      → ((grow_says (Err e) ≡ (grow_of l k).answer) ↔ RefusedBy (code_number e) (growth_numbers l k))
      × (grow_says (Err e) ≡ (grow_of l k).answer → Leaves l k (grow_of l k))
  growth_refuses e = (
    refused_exactly (grow_of l k).answer (growth_numbers l k) (growth_number l k) (refused_some l k) (code_number e),
    λ q. refusal_leaves l k (code_number e) (sym q),
  )

  -- or accepted.
  pub growth_accepts : (e : Effect) → grow_says (Ok e) ≡ (grow_of l k).answer
      → (e.home ≡ is_given (home_of k.offset (view (grow_of l k).layout)))
      × (e.changed ≡ false → (e.home ≡ true) × Leaves l k (grow_of l k))
      × (e.changed ≡ true → Changes l k (grow_of l k))
  growth_accepts e q =
      let d : growing.Effect = record { home = e.home; changed = e.changed } in (
        answer_home l k d (sym q),
        λ c. (unchanged_home l k d (sym q) c, unchanged_leaves l k d (sym q) c),
        λ c. changed_changes l k d (sym q) c,
      )
