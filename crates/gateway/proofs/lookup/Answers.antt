-- `gateway::lookup` meets its contract: a refusal of the reading comes first; else what `lookup` says of the components
-- at the places found is stored.
use Rattle.std.proofs.Common.{sym, ap, ◌∙◌, ℕ, [], ◌∷◌}
use Rattle.std.proofs.Math.Option.{some}
use Rattle.std.proofs.lemmas.Result.{err_from_is_err_and}
use Rattle.mapping.specs.Homes.{home_of}
use Rattle.mapping.specs.Lookup.{lookup_refusal, lookup_in, lookup_says, home_says}
use Rattle.gateway.specs.Host.{home_numbers, lookup_number, home_after}
use Rattle.gateway.specs.LentAnswers.{given_stored, refused_kept}
use Rattle.gateway.proofs.FoundLaws.{refused_by, read_answer}
use Rattle.gateway.proofs.lookup.Goals as goal

pub returns-in_err-read_placed : goal.returns-in_err-read_placed
unfolding lookup_number home_after
returns-in_err-read_placed c =
    let p = err_from_is_err_and c.from_residual.result c.from_residual.ensures.1 in
    let f = refused_by _ c.in_err-read_placed.ensures.number in
    rw (p.1, p.2) (f.number _, f.lent _ _ _)

pub returns-in_err-found : goal.returns-in_err-found
unfolding lookup_number home_after lookup_in lookup_says
returns-in_err-found c =
    let p = err_from_is_err_and c.from_residual-in_err-found.result c.from_residual-in_err-found.ensures.1 in
    rw (p.1, p.2) (refused_kept home_numbers c.args.home.now _ _ _
    (read_answer c.args.pages.now _ (lookup_refusal c.args.offset) (home_of c.args.offset)
    (sym c.in_ok-read_placed.ensures.number) c.in_ok-read_placed.ensures.placed
    c.in_err-found.ensures))

pub returns : goal.returns
unfolding lookup_number home_after lookup_in lookup_says
returns c =
    let found = c.in_ok-found.found in
    let s = given_stored home_numbers c.args.home.now _ _ (some (home_says found))
    (read_answer c.args.pages.now _ (lookup_refusal c.args.offset) (home_of c.args.offset)
    (sym c.in_ok-read_placed.ensures.number) c.in_ok-read_placed.ensures.placed
    c.in_ok-found.ensures) in
    (s.0, ap (λ (t : ℕ). t ∷ found.number ∷ found.byte ∷ []) c.from.ensures ∙ s.1)
