-- Laws of the host's growth: growth of the table that was loaded from words is growth of the table of the words, and
-- what the host's call comes to by what is known on the way.
use Prim.Native.Nat.{ℕ, zero, suc, ◌*◌, ◌≤◌, ◌<◌}
use Rattle.std.specs.Prelude.{◌≡◌, List, [], ◌∷◌, true, false, cond, leb, length, Result}
use Rattle.std.proofs.Math.Path.{refl}
use Rattle.std.proofs.Common.{sym, ap, ◌∙◌, ⊎_elim, arith}
use Rattle.std.proofs.lemmas.List.Edits.{sets}
use Rattle.lists.specs.Bools.{bool_cases}
use Rattle.refusals.specs.declared.Refusal.{Refusal}
use Rattle.layout.specs.declared.Layout.{Layout}
use Rattle.layout.specs.Records.{view}
use Rattle.layout.specs.Rules.{valid}
use Rattle.layout.specs.Holder.{last_end}
use Rattle.mapping.specs.Answers.{Answer, gives, refuses}
use Rattle.mapping.specs.AnswerLaws.{gives_or_refuses}
use Rattle.free_table.specs.declared.TargetRecord.{TargetRecord}
use Rattle.free_table.specs.Table.{table_ok, usable}
use Rattle.free_table.proofs.ChoosingLaws.{length_raised}
use Rattle.growth_rules.specs.Steps.{Call}
use Rattle.growth_rules.specs.Growing.{Effect, Outcome, refusing, grow_in, grow_of}
use Rattle.growth_rules.specs.CallFacts.{Changes}
use Rattle.growth_rules.proofs.CallLaws.{call_table}
use Rattle.growth.specs.declared.Grown.{Grown}
use Rattle.growth.specs.Answers.{call_of, GrownSays}
use Rattle.gateway.specs.Host.{host_reading, host_layout, lent_after}
use Rattle.gateway.proofs.HostLaws.{host_valid, own_number}
use Rattle.gateway.specs.HostGrowth.{word_table, with_next_words, host_grown, pages_of, room_number, later_number}
use Rattle.gateway.specs.HostGrowth.{grow_number}
use Rattle.gateway.specs.HostGrowth.{home_number, table_after, grown_after, answer_after}
use Rattle.gateway.specs.LentWords.{first_held, StepSays}
use Rattle.gateway.specs.WordLaws.{own_words, raised_words, held_ok, held_good, good_words}

-- On a valid layout, a call with a table that is bad is refused by 10 or 15.
bad_table : (l : Layout) (k : Call) → table_ok k.table ≡ false
    → grow_in l k ≡ refusing l k (cond (leb (last_end (view l)) k.offset) 10 15)
unfolding grow_in
bad_table l k e = bool_cases (leb (last_end (view l)) k.offset) (λ p. rw p) (λ p. rw (p, e))

-- On a valid layout, 1 does not apply.
pub grow_in_lem : (l : Layout) (k : Call) → valid l ≡ true → grow_of l k ≡ grow_in l k
unfolding grow_of
grow_in_lem l k v = rw v

-- The table after a call has as many records as the table before it.
pub call_length : (l : Layout) (k : Call) → length (grow_of l k).table ≡ length k.table
call_length l k =
    ⊎_elim (λ e. ap length e)
    (λ (c : Changes l k (grow_of l k)). ap length c.table
    ∙ length_raised (usable k.mark) (length c.objects) k.table)
    (call_table l k)

-- The words afterwards hold the table that growth gives: nothing of it but the next numbers differs from the words
-- before.
pub words_afterwards : (l : Layout) (offset mark : ℕ) (ws : List ℕ)
    → (let rs = (grow_of l (record { offset = offset; mark = mark; table = word_table ws })).table in
    word_table (with_next_words ws rs) ≡ rs)
words_afterwards l offset mark ws =
    let k : Call = record { offset = offset; mark = mark; table = word_table ws } in
    ⊎_elim (λ e. rw e (ap word_table (own_words ws)))
    (λ (c : Changes l k (grow_of l k)). rw c.table
    (raised_words (usable mark) (length c.objects) ws (good_words ws c.why.table).1))
    (call_table l k)

module _ (l : Layout) (offset mark : ℕ) (ws : List ℕ) (v : valid l ≡ true) (r : Result Grown Refusal)
    (rs : List TargetRecord)
    (given : GrownSays l r rs (grow_in l (call_of offset mark (first_held 65 ws)))) where
  -- The call with the table of the words, and what it gives.
  abbrev asked : Call
  asked = record { offset = offset; mark = mark; table = word_table ws }

  -- If that table is bad, so are the records that were loaded;
  bad_says : table_ok (word_table ws) ≡ false → StepSays l ws r rs (grow_of l asked)
  bad_says e =
      let seen = bad_table l (call_of offset mark (first_held 65 ws)) (held_ok ws ∙ e) in
      let all = grow_in_lem l asked v ∙ bad_table l asked e in
      let n : ℕ = cond (leb (last_end (view l)) offset) 10 15 in
      rw all
      record {
        answer = given.answer ∙ ap (λ (o : Outcome). o.answer) seen;
        layout = given.layout ∙ ap (λ (o : Outcome). o.layout) seen;
        table = λ d q. absurd (gives_or_refuses d n (sym q));
      }

  -- if it is good, they are its records.
  good_says : table_ok (word_table ws) ≡ true → StepSays l ws r rs (grow_of l asked)
  good_says e =
      let same : grow_in l (call_of offset mark (first_held 65 ws)) ≡ grow_of l asked =
      ap (λ (t : List TargetRecord). grow_in l (record { offset = offset; mark = mark; table = t })) (held_good ws e)
      ∙ sym (grow_in_lem l asked v) in
      let table : rs ≡ (grow_of l asked).table = given.table ∙ ap (λ (o : Outcome). o.table) same in
      let few : 3 * length rs ≤ length ws = omega (arith, ap length table, call_length l asked, (good_words ws e).1) in
      record {
        answer = given.answer ∙ ap (λ (o : Outcome). o.answer) same;
        layout = given.layout ∙ ap (λ (o : Outcome). o.layout) same;
        table = λ d q. (table, few);
      }

  -- So growth of the records that were loaded is growth of the table of the words.
  pub step_says : StepSays l ws r rs (grow_of l asked)
  step_says = bool_cases (table_ok (word_table ws)) good_says bad_says

-- What growth gave of the layout that was read and the records that were loaded.
pub step_read : (pages : List ℕ) (offset mark : ℕ) (ws : List ℕ) (l : Layout) (held : List TargetRecord)
    → (host_reading pages).refusal ≡ 0 → l ≡ host_layout pages → held ≡ first_held 65 ws
    → (r : Result Grown Refusal) (rs : List TargetRecord) → GrownSays l r rs (grow_in l (call_of offset mark held))
    → StepSays (host_layout pages) ws r rs (host_grown pages offset mark ws)
step_read pages offset mark ws l held read same loaded r rs given =
    step_says (host_layout pages) offset mark ws (host_valid pages read) r rs (rw (same, loaded) at given)

-- The number of a call that growth refuses is that of the refusal, whatever is asked last.
later_refused : (a : Answer Effect) (n m : ℕ) → later_number a 0 ≡ n → 0 < n → later_number a m ≡ n
later_refused (refuses k) n m e h = e
later_refused (gives d) n m e h = absurd (omega arith)

-- The host's call, with all that is lent.
module _ (s : List ℕ) (offset mark : ℕ) (ws bs ns : List ℕ) where
  -- What growth gives, and the number that is returned.
  abbrev out : Outcome
  out = host_grown s offset mark ws

  abbrev number : ℕ
  number = grow_number s offset mark ws (length bs)

  -- What the call returns and what is lent afterwards are as they are stated.
  abbrev pub Stated : ℕ → List ℕ → List ℕ → List ℕ → Type 0
  Stated r words bytes numbers =
      (r ≡ number) × (words ≡ table_after number ws out) × (bytes ≡ grown_after number bs out)
      × (numbers ≡ answer_after number ns out)

  -- If the call is refused, all that is lent stays.
  refused_by_lem : (n : ℕ) → number ≡ n → 0 < n → Stated n ws bs ns
  unfolding table_after grown_after answer_after lent_after
  refused_by_lem zero e h = absurd (omega arith)
  refused_by_lem (suc n) e h = rw e (refl, refl, refl, refl)

  -- If the reading gives a layout, it is refused
  module _ (read : (host_reading s).refusal ≡ 0) where
    number_read : number ≡ later_number out.answer (room_number out.layout (length bs))
    unfolding grow_number
    number_read = own_number s (later_number out.answer (room_number out.layout (length bs))) read

    -- by that of growth;
    pub growth_refused : (n : ℕ) → refuses n ≡ out.answer → 0 < n → Stated n ws bs ns
    growth_refused n e h =
        let own = ap (λ (a : Answer Effect). later_number a 0) (sym e) in
        refused_by_lem n (number_read ∙ later_refused out.answer n (room_number out.layout (length bs)) own h) h

    -- if growth accepts it, 20 is the only number left, and the results are those of growth.
    pub results_given : (d : Effect) → gives d ≡ out.answer → (l : Layout) (rs : List TargetRecord) → l ≡ out.layout
        → rs ≡ out.table → (r : ℕ) (words bytes numbers : List ℕ)
        → (let n = room_number l (length bs) in
        (r ≡ n) × (words ≡ lent_after n (with_next_words ws rs) ws) × (bytes ≡ lent_after n (sets bs 0 (pages_of l)) bs)
        × (numbers ≡ lent_after n (sets ns 0 (length (pages_of l) ∷ cond d.home 1 0 ∷ [])) ns))
        → Stated r words bytes numbers
    unfolding table_after grown_after answer_after
    results_given d e l rs same_layout same_table r words bytes numbers given =
        let n : number ≡ room_number out.layout (length bs) =
        number_read ∙ ap (λ (a : Answer Effect). later_number a (room_number out.layout (length bs))) (sym e) in
        let home : cond d.home 1 0 ≡ home_number out.answer = ap home_number e in
        rw n (rw (same_layout, same_table, home) at given)
