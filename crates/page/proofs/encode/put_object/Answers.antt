-- `page::encode::put_object` meets its contract: four numbers, each written where the one before ends.
use Rattle.page.proofs.Stores.{object_stored}
use Rattle.page.proofs.encode.put_object.Goals as goal

pub returns : goal.returns
returns c =
    rw (c.write_at-4.ensures, c.write_at-3.ensures, c.write_at-2.ensures, c.write_at.ensures)
    (object_stored c.args.buffer.now c.args.at c.args.object)
