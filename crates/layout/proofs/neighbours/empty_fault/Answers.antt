-- `layout::neighbours::empty_fault` meets its contract: the position is found among the pairs of a component and its
-- follower.
use Rattle.std.specs.Prelude.{ℕ, ◌-◌, ◌≡◌, Option, List, Bool, not, length, drop}
use Rattle.std.specs.List.{zip}
use Rattle.std.proofs.Common.{◌∙◌, sym, refl, length-drop}
use borrow.Author.Rules.{rules}
use borrow.Author.Tests.{tests}
use Rattle.std.proofs.lemmas.Iterator.{YieldsList-from_slice, YieldsList-from_zip}
use Rattle.std.proofs.lemmas.Iterator.Adapters.{YieldsList-from_skip}
use Rattle.lists.specs.Tests.{first_failed, first_that, found, length_ahead, drop_ahead}
use Rattle.lists.specs.Slices.{part_rest}
use Rattle.lists.proofs.Iterators.{found-position}
use Rattle.lists.proofs.Found.{found_pair, rest_some, rest_none}
use Rattle.layout.specs.declared.Neighbour.{Neighbour}
use Rattle.layout.specs.Neighbours.{empty_before, empty_ok, empty_tests}
use Rattle.layout.proofs.neighbours.empty_fault.Goals as goal

-- The test of a component and its follower.
abbrev joined : Neighbour → Neighbour → Bool
joined a b = empty_before a.init a.begin a.end b.extension

-- What is found among the pairs of the rest is what the tests of the rest give.
pairs_tests : (l : List Neighbour) (k : ℕ) (r : Option ℕ)
    → r ≡ found (first_that (λ (p : Neighbour × Neighbour). not (joined p.0 p.1)) (zip (drop k l) (drop 1 (drop k l))))
    (length (zip (drop k l) (drop 1 (drop k l))))
    → r ≡ found (first_failed (drop k (empty_tests l))) (length l - k)
pairs_tests l k r e = rw (drop_ahead, ← length-drop k l)
    (e ∙ found_pair empty_ok joined (λ a. refl) (λ a b m. refl) (drop k l))

pub returns-in_err-i : goal.returns-in_err-i
returns-in_err-i c =
    let l = c.args.list.now in
    let k = c.args.from in
    let r = drop k l in
    let d : c.iter.result.rest.now ≡ r = c.iter.ensures.rest ∙ part_rest l k in
    let e : c.iter-2.result.rest.now ≡ r = c.iter-2.ensures.rest ∙ part_rest l k in
    let pairs = YieldsList-from_zip {s = c.zip.result} (YieldsList-from_slice {s = c.zip.result.a} r (cc))
    (YieldsList-from_skip {s = c.zip.result.b} 1 (YieldsList-from_slice {s = c.zip.result.b.iter} r (cc)) (cc)) in
    let p = found-position (λ p. not (joined p.0 p.1)) c.position.new.self _ _ c.position.ensures.ran pairs
    (λ x b q k. search (rules, tests)) in
    c.from_residual.ensures ∙ rest_none (empty_tests l) k (length l) c.requires.0 (length_ahead _ l) c.requires.1
    (pairs_tests l k _ (sym c.in_err-i.was ∙ p))

pub returns : goal.returns
returns c =
    let l = c.args.list.now in
    let k = c.args.from in
    let r = drop k l in
    let d : c.iter.result.rest.now ≡ r = c.iter.ensures.rest ∙ part_rest l k in
    let e : c.iter-2.result.rest.now ≡ r = c.iter-2.ensures.rest ∙ part_rest l k in
    let pairs = YieldsList-from_zip {s = c.zip.result} (YieldsList-from_slice {s = c.zip.result.a} r (cc))
    (YieldsList-from_skip {s = c.zip.result.b} 1 (YieldsList-from_slice {s = c.zip.result.b.iter} r (cc)) (cc)) in
    let p = found-position (λ p. not (joined p.0 p.1)) c.position.new.self _ _ c.position.ensures.ran pairs
    (λ x b q k. search (rules, tests)) in
    rest_some (empty_tests l) k (length l) c.requires.0 (length_ahead _ l) c.requires.1 _
    (pairs_tests l k _ (sym c.in_ok-i.was ∙ p))
