-- `mapping::cutting::last_end` meets its contract: there is a last component.
use Rattle.layout.specs.Records.{no_component}
use Rattle.mapping.proofs.LastEnd.{last_end-get_or}
use Rattle.mapping.proofs.cutting.last_end.Goals as goal

pub returns : goal.returns
returns g c =
    let cs = g.C.Components.list c.args.components.now in
    let some = (g.met.C.Components.valid c.args.components.now).0 in
    rw (last_end-get_or cs no_component some, ← c.count.ensures) c.end.ensures
