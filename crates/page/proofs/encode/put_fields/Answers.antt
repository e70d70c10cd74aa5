-- `page::encode::put_fields` meets its contract: each field is written where the one before ends.
use Rattle.std.specs.Int.{w32}
use Rattle.std.proofs.Common.{rules, to_z-of_z}
use Rattle.page.proofs.Stores.{fields_stored}
use Rattle.page.proofs.encode.put_fields.Goals as goal

pub returns : goal.returns
returns c =
    let signed = to_z-of_z {w = w32} {z = c.args.c.now.first_target} (search rules) in
    rw (
      c.write_at-9.ensures,
      c.write_at-8.ensures,
      c.write_at-7.ensures,
      c.write_at-6.ensures,
      c.write_at-5.ensures,
      c.write_at-4.ensures,
      c.write_at-3.ensures,
      c.write_at-2.ensures,
      c.write_at.ensures,
      signed,
    )
    (fields_stored c.args.buffer.now c.args.at c.args.c.now c.word-word.result c.word-word.ensures)
