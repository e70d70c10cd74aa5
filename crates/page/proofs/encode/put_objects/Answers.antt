-- `page::encode::put_objects` meets its contract: all stores give what those from object i on give to the buffer as it
-- is.
use Prim.Native.Nat.{suc}
use mathlib.Core.Path.{◌∙◌, refl}
use lib.ListN.{drop, get_or}
use Rattle.std.proofs.Common.{add-one, drop-cons}
use Rattle.layout.specs.Records.{no_object}
use Rattle.page.proofs.Stores.{object_turn}
use Rattle.page.proofs.encode.put_objects.Goals as goal

pub loop-i-preserved : goal.loop-i-preserved
loop-i-preserved c =
    let os = c.args.objects.now in
    let next = drop-cons os c.loop-i.i no_object c.loop-i-test.true in
    c.loop-i.invariant ∙ rw (next, add-one)
    (object_turn _ _ c.args.at c.loop-i.i _ (get_or os c.loop-i.i no_object) (drop (suc c.loop-i.i) os)
    c.put_object.ensures refl)
