-- `layout::distinct::object_repeat` meets its contract: the keys are stored in the first places, and the rest of the
-- row stays.
use Rattle.std.proofs.Common.{refl, arith}
use Rattle.std.proofs.lemmas.List.{length-map}
use Rattle.std.proofs.lemmas.List.Edits.{sets-eq}
use Rattle.std.proofs.Math.Nat.{zero-add}
use Rattle.layout.specs.Rows.{key_of, keys_of}
use Rattle.layout.proofs.distinct.object_repeat.Goals as goal

pub returns : goal.returns
returns c =
    let n = length-map c.args.objects.now key_of in (
      c.repeat_by_keys.ensures,
      rw (
        c.put_keys.ensures,
        sets-eq (keys_of c.args.objects.now) c.args.keys.now 0
            (omega (arith, n)),
        n,
        zero-add,
      ) refl,
    )
