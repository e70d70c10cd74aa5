-- `page::encode::put_component` meets its contract: the object records are written where the fields end.
use native.Mathlib.Omega.{arith}
use Rattle.page.proofs.Stores.{component_stored}
use Rattle.page.proofs.encode.put_component.Goals as goal

pub returns : goal.returns
returns c = (
  omega arith,
  rw (c.put_objects.ensures, c.put_fields.ensures, c.objects.ensures)
      (component_stored c.args.buffer.now c.args.at c.args.c.now),
)
