-- `layout::pack` meets its contract: the components are in the first places, and the rest are as they were.
use Rattle.std.specs.Prelude.{◌≡◌, ◌≤◌, List, ◌++◌, length, drop, replicate, true}
use Rattle.std.proofs.Common.{arith, zero-add, sym}
use Rattle.std.proofs.lemmas.List.Edits.{sets-eq}
use borrow.Author.Rules.{rules}
use Rattle.layout.specs.declared.Component.{Component}
use Rattle.layout.specs.Records.{no_component, pack_components}
use Rattle.layout.proofs.pack.Goals as goal

packed_after : (cs : List Component) → length cs ≤ 16 → cs ++ drop (length cs) (replicate 16 no_component)
    ≡ pack_components cs
unfolding pack_components
packed_after cs h = rw zero-add at (sym (sets-eq cs (replicate 16 no_component) 0 (omega arith)))

pub returns : goal.returns
returns c =
    let cs = c.args.components.now in
    let w : c.copy_from_slice.new.self ≡ cs = search rules in
    let x : c.copy_from_slice.new.self ++ drop (length cs) (replicate 16 no_component) ≡ pack_components cs =
    rw w (packed_after cs c.requires) in
    λ i. record { generation = c.args.generation; count = length cs; components = x i; complete = true }
