-- `page::decode::component_at` meets its contract: the fields are those of the definition.
use mir.Facts.{to_z-of_z}
use borrow.Author.Rules.{sfits_of}
use Rattle.std.proofs.Math.Nat.{min_comm}
use Rattle.page.specs.Form.{records_at}
use Rattle.page.specs.Content.{component_at}
use Rattle.page.proofs.decode.component_at.Goals as goal

pub returns : goal.returns
unfolding component_at
returns c =
    rw (
      min_comm 16 (records_at c.args.s.now c.args.at),
      ← c.record_count.ensures.0,
      ← c.min-records.ensures,
      ← c.objects_at-objects.ensures,
      ← c.read_at-word.ensures,
      ← c.is_set.ensures,
      ← c.is_set-2.ensures,
      ← c.read_at.ensures,
      ← c.read_at-2.ensures,
      ← c.read_at-3.ensures,
      ← c.read_at-4.ensures,
      ← c.read_at-5.ensures,
      ← c.read_at-6.ensures,
      ← c.read_at-7.ensures,
      to_z-of_z (sfits_of c.read_at-4.type_inv),
    )
