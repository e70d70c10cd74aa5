-- `mapping::homes::lookup_in`: no component before this one ends above the byte.
use Rattle.std.proofs.Common.{◌≡◌, ◌+◌, drop}
use Rattle.layout.specs.HolderLaws.{ends_above}
use Rattle.mapping.proofs.homes.lookup_in.Given as goal

abbrev pub invariant-loop-i : goal.invariant-loop-i
invariant-loop-i g l = let cs = g.C.Components.list l.components in
    ends_above l.offset cs ≡ l.i + ends_above l.offset (drop l.i cs)
