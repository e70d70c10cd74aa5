-- `placed_mapping`: `stripe`: no object record before this one names the object.
use Rattle.std.proofs.Common.{◌≡◌, ◌+◌, drop}
use Rattle.layout.specs.Records.{records_of}
use Rattle.page.specs.Content.{component_at}
use Rattle.mapping.specs.Back.{position_in}
use Rattle.placed_mapping.proofs.PlacedComponents.stripe.Given as goal

abbrev pub invariant-loop-j : goal.invariant-loop-j
invariant-loop-j l = let os = records_of (component_at l.self.pages.now l.at) in
    position_in l.object os ≡ l.j + position_in l.object (drop l.j os)
