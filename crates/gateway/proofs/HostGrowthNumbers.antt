-- What the host's growth comes to, by the number that growth has.
use Prim.Native.Nat.{ℕ, ◌<◌, ◌≤◌}
use Rattle.std.specs.Prelude.{◌≡◌, List, [], ◌∷◌, true, map, length, Result}
use Rattle.std.proofs.Math.Path.{refl}
use Rattle.std.proofs.Common.{sym, ap, ◌∙◌, arith, length-take}
use Rattle.std.proofs.lemmas.List.Edits.{sets}
use Rattle.refusals.specs.declared.Refusal.{Refusal}
use Rattle.layout.specs.declared.Layout.{Layout}
use Rattle.layout.specs.Rules.{valid}
use Rattle.mapping.specs.Answers.{Answer, gives, refuses}
use Rattle.free_table.specs.declared.TargetRecord.{TargetRecord}
use Rattle.free_table.specs.Table.{Table, table_of}
use Rattle.growth_rules.specs.Steps.{Call}
use Rattle.growth_rules.specs.Growing.{Effect, Outcome, grow_in, grow_of}
use Rattle.growth_rules.proofs.CallLaws.{refused_some}
use Rattle.growth.specs.declared.Grown.{Grown}
use Rattle.growth.specs.Answers.{call_of, GrownSays}
use Rattle.gateway.specs.Host.{host_reading, lent_after}
use Rattle.gateway.specs.HostGrowth.{word_table, with_next_words, host_grown, pages_of, room_number, later_number}
use Rattle.gateway.specs.HostGrowth.{home_number}
use Rattle.gateway.specs.LentWords.{held_record, first_held}
use Rattle.gateway.proofs.HostGrowthLaws as laws
use Rattle.gateway.proofs.HostGrowthLaws.{Stated}

-- The records after growth of those that were loaded have places in a table of 65.
pub step_few : (l : Layout) (offset mark : ℕ) (ws : List ℕ) → valid l ≡ true
    → (r : Result Grown Refusal) (rs : List TargetRecord)
    → GrownSays l r rs (grow_in l (call_of offset mark (first_held 65 ws))) → length rs ≤ 65
step_few l offset mark ws v r rs given =
    let k = call_of offset mark (first_held 65 ws) in
    let same : length rs ≡ length (grow_of l k).table =
    ap length given.table ∙ ap (λ (o : Outcome). length o.table) (sym (laws.grow_in_lem l k v)) in
    omega (arith, same, laws.call_length l k, length-take 65 (map held_record (word_table ws)))

module _ (s : List ℕ) (offset mark : ℕ) (ws bs ns : List ℕ) where
  abbrev out : Outcome
  out = host_grown s offset mark ws

  module _ (read : (host_reading s).refusal ≡ 0) where
    -- An answer with a number refuses by it.
    refused_as : (a : Answer Effect) (n : ℕ) → later_number a 0 ≡ n → 0 < n → refuses n ≡ a
    refused_as (refuses k) n e h = sym (ap (λ (m : ℕ). refuses m) e)
    refused_as (gives d) n e h = absurd (omega arith)

    -- The call is refused by the number of growth;
    pub growth_refused : (n : ℕ) → later_number out.answer 0 ≡ n → 0 < n → Stated s offset mark ws bs ns n ws bs ns
    growth_refused n e h = laws.growth_refused s offset mark ws bs ns read n (refused_as out.answer n e h) h

    -- if growth has no number, it is accepted;
    accepted_by : (a : Answer Effect) → out.answer ≡ a → later_number a 0 ≡ 0 → (d : Effect) × (out.answer ≡ gives d)
    accepted_by (gives d) e z = (d, e)
    accepted_by (refuses n) e z =
        let k : Call = record { offset = offset; mark = mark; table = word_table ws } in
        absurd (omega (arith, refused_some (host_reading s).layout k n e))

    pub growth_accepted : later_number out.answer 0 ≡ 0 → (d : Effect) × (out.answer ≡ gives d)
    growth_accepted z = accepted_by out.answer refl z

    -- 20 is then the only number left, and the results are those of growth.
    pub results_given : (l : Layout) (t : Table) (home : ℕ) → later_number out.answer 0 ≡ 0 → l ≡ out.layout
        → table_of t ≡ out.table → home ≡ home_number out.answer → (r : ℕ) (words bytes numbers : List ℕ)
        → (let n = room_number l (length bs) in
        (r ≡ n) × (words ≡ lent_after n (with_next_words ws (table_of t)) ws)
        × (bytes ≡ lent_after n (sets bs 0 (pages_of l)) bs)
        × (numbers ≡ lent_after n (sets ns 0 (length (pages_of l) ∷ home ∷ [])) ns))
        → Stated s offset mark ws bs ns r words bytes numbers
    results_given l t home z same_layout same_table same_home r words bytes numbers given =
        let a = growth_accepted z in
        let told = same_home ∙ ap home_number a.1 in
        laws.results_given s offset mark ws bs ns read a.0 (sym a.1) l (table_of t) same_layout same_table r words bytes
        numbers
        (rw told at given)
