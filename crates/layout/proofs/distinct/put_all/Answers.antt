-- `layout::distinct::put_all` meets its contract: what all stores give is what the stores of the components from i on
-- give to the row as it is.
use Rattle.std.proofs.Common.{◌≡◌, ◌+◌, ◌*◌, inl, inr, refl, sym, ◌∙◌, length, get_or, drop, arith}
use Rattle.std.proofs.Common.{length-append, drop_of_length-le}
use Rattle.std.proofs.lemmas.Bool.{cases_lt}
use Rattle.std.proofs.Math.Nat.{le_of_lt, min-eq_left, min-eq_right, min-le_left, min-le_right}
use Rattle.lists.specs.Slices.{drop_next, sets_append}
use Rattle.layout.specs.Records.{no_component, records_of, records_in}
use Rattle.layout.proofs.distinct.put_all.Goals as goal

pub loop-i-init : goal.loop-i-init
loop-i-init g c = (refl, omega arith, refl, omega arith)

pub put_records-p-requires-clause-room : goal.put_records-p-requires-clause-room
put_records-p-requires-clause-room g c =
    let cs = g.C.Components.list c.args.components.now in
    let x = get_or cs c.loop-i.i no_component in
    let e = drop_next cs c.loop-i.i no_component (omega arith) in
    let n : c.loop-i.p + length (records_of x) + length (records_in (drop (c.loop-i.i + 1) cs))
    ≡ length (records_in cs) =
    sym (c.loop-i.invariant.1 ∙ rw (e, length-append) (omega arith)) in
    elim (cases_lt (16 * length cs) (length (records_in cs))) [
      | inr h ↦ omega (arith, n, rw (min-eq_left h) at c.requires, min-le_left (length (records_of x)) 16)
      | inl h ↦
          omega (
            arith,
            rw (min-eq_right (le_of_lt h)) at c.requires,
            c.loop-i.invariant.3,
            min-le_right (length (records_of x)) 16,
          )
    ]

pub loop-i-preserved : goal.loop-i-preserved
loop-i-preserved g c =
    let cs = g.C.Components.list c.args.components.now in
    let q = c.put_records-p in
    let x = get_or cs c.loop-i.i no_component in
    let rest = records_in (drop (c.loop-i.i + 1) cs) in
    let e = drop_next cs c.loop-i.i no_component (omega arith) in (
      q.auto.objects ∙ c.loop-i.invariant.0,
      c.loop-i.invariant.1 ∙ rw (e, length-append, q.ensures.0) (omega arith),
      c.loop-i.invariant.2 ∙ rw (e, q.ensures.2, q.ensures.0)
          (sets_append c.loop-i.objects c.loop-i.p (records_of x) rest),
      omega (arith, q.ensures.1, c.loop-i.invariant.3),
    )

pub returns : goal.returns
returns g c =
    let e = drop_of_length-le (g.C.Components.list c.args.components.now) {i = c.loop-i.i} (omega arith) in (
      sym (c.loop-i.invariant.1 ∙ rw e (omega arith)),
      omega (arith, c.loop-i.invariant.3),
      sym (c.loop-i.invariant.2 ∙ rw e),
    )
