-- `paging::put_components` meets its contract: all stores give what those that are left give to the buffer.
use Prim.Native.Nat.{ℕ, suc, ◌+◌, ◌≤◌, ◌<◌}
use mathlib.Core.Path.{◌∙◌}
use native.Mathlib.Omega.{arith}
use mathlib.Core.List.{List}
use lib.ListN.{length, drop, get_or, length-append}
use Rattle.std.proofs.Common.{add-one, drop-cons}
use Rattle.lists.specs.Slices.{sets_append}
use Rattle.layout.specs.declared.Component.{Component}
use Rattle.layout.proofs.Unread.{unread}
use Rattle.page.specs.Bytes.{size_of, component_bytes, components_bytes}
use Rattle.page.specs.BytesLaws.{length_component}
use Rattle.paging.proofs.put_components.Goals as goal

-- There is room for the next component and those after it.
room_next : (cs : List Component) (i at room : ℕ) → i < length cs → at + length (components_bytes (drop i cs)) ≤ room
    → at + (size_of (get_or cs i unread) + length (components_bytes (drop (suc i) cs))) ≤ room
room_next cs i at room h r = rw (drop-cons cs i unread h, length-append, length_component) at r

pub put_component-at-requires : goal.put_component-at-requires
put_component-at-requires c =
    let r = room_next c.args.components.now c.loop-c.c-index c.loop-c.at _ c.loop-c-test.true c.loop-c.invariant.room in
    omega arith

pub loop-c-preserved : goal.loop-c-preserved
loop-c-preserved c =
    let cs = c.args.components.now in
    let x = get_or cs c.loop-c.c-index unread in
    let rest = drop (suc c.loop-c.c-index) cs in
    let next = drop-cons cs c.loop-c.c-index unread c.loop-c-test.true in
    let r = room_next cs c.loop-c.c-index c.loop-c.at _ c.loop-c-test.true c.loop-c.invariant.room in
    let put = c.put_component-at in
    record {
      room = rw (put.ensures.0, add-one) (omega arith);
      stored = c.loop-c.invariant.stored
          ∙ rw (next, put.ensures.1, put.ensures.0, ← length_component x, add-one)
          (sets_append c.loop-c.buffer c.loop-c.at (component_bytes x) (components_bytes rest));
    }
