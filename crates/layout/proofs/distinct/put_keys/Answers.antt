-- `layout::distinct::put_keys` meets its contract: all stores give what those of the records from i on give to the row.
use Rattle.std.proofs.Common.{refl, sym, ◌∙◌, add-one, drop-cons, drop_of_length-le}
use Rattle.std.proofs.lemmas.List.{length-map}
use Rattle.std.proofs.Math.ListN.{length-set}
use Rattle.lists.specs.Slices.{sets_whole}
use Rattle.layout.specs.Records.{no_object}
use Rattle.layout.specs.Rows.{key_of}
use Rattle.layout.proofs.distinct.put_keys.Goals as goal

pub loop-i-init : goal.loop-i-init
loop-i-init c = (c.requires, refl)

pub loop-i-preserved : goal.loop-i-preserved
loop-i-preserved c =
    let e = drop-cons c.args.objects.now c.loop-i.i no_object c.loop-i-test.true in (
      length-set c.loop-i.keys c.loop-i.i c.key_of.result ∙ c.loop-i.invariant.0,
      c.loop-i.invariant.1
          ∙ rw (e, ← c.key_of.ensures, add-one),
    )

pub returns : goal.returns
returns c =
    sym (c.loop-i.invariant.1 ∙ rw (drop_of_length-le c.args.objects.now {i = c.loop-i.i} c.loop-i-test.false))
    ∙ sets_whole c.args.keys.now _ (length-map c.args.objects.now key_of ∙ sym c.requires)
