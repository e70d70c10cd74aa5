-- `growth::changing::changed` meets its contract: the components by the change are in the first places of the array.
use Rattle.std.specs.Prelude.{◌+◌, List}
use Rattle.std.proofs.Common.{ap, ◌∙◌, arith}
use Rattle.layout.specs.declared.Component.{Component}
use Rattle.layout.specs.Records.{packed}
use Rattle.growth.specs.SpliceLaws.{spliced_planned}
use Rattle.growth.proofs.changing.changed.Goals as goal

pub returns : goal.returns
returns c =
    c.pack.ensures
    ∙ ap (λ (cs : List Component). packed (c.args.l.generation + 1) cs)
    (rw (c.planned_count.ensures, c.spliced-next.ensures)
    (spliced_planned c.args.p c.args.l.components c.args.l.count (omega (arith, c.requires.0)) c.requires.1
    (omega (arith, c.requires.2))))
