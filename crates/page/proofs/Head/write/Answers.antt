-- `page::Head::write` meets its contract: each field is written where the one before ends.
use Rattle.page.proofs.Stores.{head_stored}
use Rattle.page.proofs.Head.write.Goals as goal

pub returns : goal.returns
returns c =
    rw (
      c.write_at-6.ensures,
      c.write_at-5.ensures,
      c.write_at-4.ensures,
      c.write_at-3.ensures,
      c.write_at-2.ensures,
      c.write_at.ensures,
    )
    (head_stored c.args.buffer.now c.args.self c.word-word.result c.word-word.ensures)
