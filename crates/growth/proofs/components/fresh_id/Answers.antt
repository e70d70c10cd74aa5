-- `growth::components::fresh_id` meets its contract: the first id that no component has, or the one after all.
use Rattle.std.specs.Prelude.{ℕ, zero, suc, ◌+◌, ◌≡◌, refl, List, Option, Some, None, not, eqb, length}
use Rattle.std.specs.List.{find, range_with_len}
use Rattle.std.specs.Option.{option_map}
use Rattle.std.proofs.Common.{ap, ◌∙◌, arith}
use borrow.Author.Rules.{rules}
use borrow.Author.Tests.{tests}
use Rattle.std.proofs.lemmas.Iterator.{YieldsList-from_range}
use Rattle.std.proofs.lemmas.Iterator.Search.{find_from_yields_List}
use Rattle.std.proofs.lemmas.List.{length-map}
use Rattle.lists.specs.Bools.{bool_cases}
use Rattle.lists.specs.Counting.{elem}
use Rattle.layout.specs.Records.{id_of, ids_of}
use Rattle.growth_rules.specs.Parts.{id_from, fresh_id}
use Rattle.growth.proofs.components.fresh_id.Goals as goal

-- What is found, or what is given for none.
abbrev or_else : ℕ → Option ℕ → ℕ
or_else after None = after
or_else after (Some id) = id

-- The first of n ids from k on that none of these is, or the one after them.
by_first : (n k after : ℕ) (ids : List ℕ) → after ≡ k + n
    → or_else after (find (λ (id : ℕ). not (elem eqb id ids)) (range_with_len k n)) ≡ id_from n k ids
by_first zero k after ids e = omega (arith, e)
by_first (suc n) k after ids e =
    bool_cases (elem eqb k ids) (λ t. rw t (by_first n (k + 1) after ids (omega (arith, e)))) (λ t. rw t refl)

pub returns : goal.returns
unfolding fresh_id
returns c =
    let ids = ids_of c.args.components.now in
    let n = length ids in
    let after = length c.args.components.now + 1 in
    let e : n ≡ length c.args.components.now = length-map c.args.components.now id_of in
    let first =
    find_from_yields_List (λ (id : ℕ). not (elem eqb id ids)) _ _ _ c.find.ensures.ran
    (YieldsList-from_range 1 after n refl (omega (arith, e))) (λ x b q k. search (rules, tests)) in
    let says : (o : Option ℕ) → c.find.result ≡ o → c.unwrap_or.result ≡ or_else after (option_map (λ x. x) o) =
    λ o e. elim o [
      | None ↦ search rules
      | Some b ↦ search rules
    ] in
    says c.find.result refl ∙ ap (or_else after) first ∙ by_first n 1 after ids (omega (arith, e))
