-- `listing::listing_of` meets its contract: the text is that of the reading, and a reading that is not refused gives a
-- valid layout.
use Rattle.std.proofs.Common.{ℕ, ◌≤◌, ◌≡◌, refl, ap, sym, ◌∙◌, List, true, arith, ne_eqb, length}
use Rattle.refusals.specs.Refusals.{number_of, number_pos}
use Rattle.layout.specs.Rules.{valid}
use Rattle.layout.specs.FactLaws.{valid_facts}
use Rattle.collector.specs.Runs.{Reading, read_run, listed_cut}
use Rattle.collector.proofs.ValidRuns.{run_valid}
use Rattle.listing.specs.Listing.{listing_of}
use Rattle.listing.proofs.listing_of.Goals as goal

-- A reading that is not refused has at most 16 components.
few : (r : Reading) (s : List ℕ) → r ≡ read_run listed_cut s → r.refusal ≡ 0 → r.layout.count ≤ 16
few r s e z =
    let y : (read_run listed_cut s).refusal ≡ 0 = ap (λ (x : Reading). x.refusal) (sym e) ∙ z in
    let v : valid r.layout ≡ true = ap (λ (x : Reading). valid x.layout) e ∙ run_valid listed_cut s y in
    (valid_facts r.layout v).few

pub push_layout-requires : goal.push_layout-requires
push_layout-requires c = (few _ c.args.input.now c.in-Ok.ensures refl, ap length c.new-text.ensures)

pub returns-in-Ok : goal.returns-in-Ok
unfolding listing_of
returns-in-Ok c = rw (← c.in-Ok.ensures) (rw c.new-text.ensures at c.push_layout.ensures)

pub returns-in-Err : goal.returns-in-Err
unfolding listing_of
returns-in-Err c =
    let n = number_of c.in-Err.refused.refusal in
    rw (← c.in-Err.ensures, ne_eqb n 0 (λ z. omega (arith, number_pos c.in-Err.refused.refusal)))
    (rw c.new-text.ensures at c.push_refused.ensures)
