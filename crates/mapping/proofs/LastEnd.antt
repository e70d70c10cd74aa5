-- The last component of a list.
use Rattle.std.specs.Prelude.{ℕ, ◌+◌, ◌-◌, ◌≤◌, ◌≡◌, List, length, get_or, take}
use Rattle.std.proofs.Common.{sym, ap, ◌∙◌, arith}
use Rattle.std.proofs.lemmas.List.{map-append}
use Rattle.std.proofs.Math.Seq.{take-length}
use Rattle.lists.specs.Tests.{after_append}
use Rattle.lists.specs.Slices.{take_next}
use Rattle.layout.specs.declared.Component.{Component}
use Rattle.layout.specs.Holder.{last_end}

-- The last end is that of the last component.
pub last_end-get_or : (cs : List Component) (d : Component) → 1 ≤ length cs
    → last_end cs ≡ (get_or cs (length cs - 1) d).end
last_end-get_or cs d h =
    let n : length cs ≡ length cs - 1 + 1 = omega arith in
    sym (ap last_end (take-length cs))
    ∙ ap (λ (k : ℕ). last_end (take k cs)) n
    ∙ rw (take_next cs (length cs - 1) d (omega arith), map-append, after_append)
