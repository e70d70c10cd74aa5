-- `growth::changing::spliced` meets its contract: one component is stored or two, and those that follow after them.
use Rattle.std.specs.Prelude.{ℕ, ◌+◌, ◌-◌, ◌≤◌, ◌≡◌, List, length, take, drop, set}
use Rattle.std.proofs.Common.{ap, ◌∙◌, arith, add-one, append_assoc, length-take-le, length-drop, drop-drop}
use Rattle.std.proofs.lemmas.List.{take_rest, length-set}
use Rattle.std.proofs.lemmas.List.Edits.{sets, sets-eq}
use borrow.Rule.Slice.PartMut.{put_mid}
use Rattle.layout.specs.declared.Component.{Component}
use Rattle.layout.specs.Records.{view}
use Rattle.growth.proofs.changing.spliced.Goals as goal
use Rattle.growth.proofs.changing.spliced.Goals.{in-Some, in_default}

-- Components copied into a part of an array of just their number are stored there one after the other.
copied : (list new xs : List Component) (at k : ℕ) → new ≡ xs → k ≡ length xs → at + length xs ≤ length list
    → put_mid at k list new ≡ sets list at xs
copied list new xs at k e n h = rw (e, n, sets-eq xs list at h, drop-drop, append_assoc)

pub returns : goal.returns
returns c =
    let list = c.args.l.components in
    let from = c.args.p.at + c.args.p.old in
    let cs = c.components.result.now in
    let others = drop from (view c.args.l) in
    let cut : take (length cs - from) (drop from cs) ≡ others =
    take_rest cs from ∙ ap (λ (ds : List Component). drop from ds) c.components.ensures in
    let m : length others ≡ c.args.l.count - from =
    omega (arith, length-drop from (view c.args.l), length-take-le c.args.l.count list (omega (arith, c.requires))) in
    let new = c.copy_from_slice.ensures.after ∙ cut in
    let first = set list c.args.p.at c.args.p.made in
    elim c.match-p.branch [
      | in-Some w ↦
          let second = set first (c.args.p.at + 1) w.in-Some.left in
          let few = rw w.in-Some.is at c.requires.2 in
          rw (w.next-is, w.after-is, w.in-Some.is)
          (copied second _ others (c.args.p.at + 1 + 1) _ new (omega (arith, ap length cut))
          (omega (
            arith,
            m,
            few,
            length-set list c.args.p.at c.args.p.made,
            length-set first (c.args.p.at + 1) w.in-Some.left,
          ))
          ∙ rw (add-one, add-one))
      | in_default w ↦
          let few = rw w.in_default.is at c.requires.2 in
          rw (w.next-is, w.after-is, w.in_default.is)
          (copied first _ others (c.args.p.at + 1) _ new (omega (arith, ap length cut))
          (omega (arith, m, few, length-set list c.args.p.at c.args.p.made))
          ∙ rw add-one)
    ]
