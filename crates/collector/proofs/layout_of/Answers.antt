-- `collector::layout_of` meets its contract: a collector that keeps the rules has at most 16 components.
use mathlib.Core.Path.{◌≡◌}
use mathlib.Core.Bool.{true}
use Rattle.collector.specs.Collector.{collector_ok}
use Rattle.collector.specs.Sound.{sound_facts}
use Rattle.collector.proofs.layout_of.Goals as goal

pub layout_in-requires : goal.layout_in-requires
layout_in-requires c =
    let e : collector_ok c.args.c.now ≡ true = cc in
    (sound_facts c.args.c.now e).few
