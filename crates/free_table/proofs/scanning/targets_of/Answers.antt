-- `free_table::scanning::targets_of` meets its contract: what all stores give is what the stores from i on give to the
-- array as it is.
use Rattle.std.specs.Prelude.{◌≡◌, List, [], length, drop, replicate}
use Rattle.std.proofs.Common.{ap, sym, ◌∙◌, drop_of_length-le}
use Rattle.std.proofs.lemmas.List.{length-map}
use Rattle.std.proofs.lemmas.List.Edits.{sets}
use Rattle.layout.specs.declared.Object.{Object}
use Rattle.layout.specs.Records.{records_of}
use Rattle.layout.specs.Rows.{target_of, targets_of}
use Rattle.free_table.specs.Scanning.{pack_targets}
use Rattle.free_table.proofs.scanning.targets_of.Goals as goal

pub returns : goal.returns
unfolding pack_targets
returns c =
    let given = c.objects-objects in
    let os = records_of c.args.c in
    let none : drop c.loop-i.i given.result.now ≡ [] = drop_of_length-le given.result.now c.loop-i-test.false in
    let m : length given.result.now ≡ length (targets_of os) = ap length given.ensures
    ∙ sym (length-map os target_of) in
    let x : c.loop-i.targets ≡ sets (replicate 16 0) 0 (targets_of os) =
    sym (ap (λ (l : List Object). sets (replicate 16 0) 0 (targets_of l)) (sym given.ensures) ∙ c.loop-i.invariant
    ∙ ap (λ (l : List Object). sets c.loop-i.targets c.loop-i.i (targets_of l)) none) in
    λ i. record { count = m i; items = x i }
