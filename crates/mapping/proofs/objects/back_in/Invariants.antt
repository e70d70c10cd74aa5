-- `mapping::objects::back_in`: no component before this one has the object.
use Rattle.std.proofs.Common.{◌≡◌, ◌+◌, drop}
use Rattle.mapping.specs.Back.{owner_of}
use Rattle.mapping.proofs.objects.back_in.Given as goal

abbrev pub invariant-loop-i : goal.invariant-loop-i
invariant-loop-i g l = let cs = g.C.Components.list l.components in
    owner_of l.object cs ≡ l.i + owner_of l.object (drop l.i cs)
