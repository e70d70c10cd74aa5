-- `mapping::cut` meets its contract: 1 is asked first; of a valid layout the rest is `cut_valid`'s answer.
use mathlib.Core.Path.{ap, refl}
use mathlib.Core.Bool.{not}
use Rattle.mapping.specs.AnswerLaws.{invalid_by, valid_by}
use Rattle.mapping.specs.Cutting.{cut_in, cut_of, cut_says, room_after}
use Rattle.mapping.proofs.cut.Goals as goal

pub returns-then-not-is_valid : goal.returns-then-not-is_valid
unfolding cut_says cut_of room_after
returns-then-not-is_valid c = rw (invalid_by _ _ c.is_valid.ensures (ap not c.if-not-is_valid.true)) (refl, refl)

pub returns : goal.returns
unfolding cut_of cut_in
returns c =
    rw (valid_by _ _ c.is_valid.ensures (ap not c.if-not-is_valid.false)) c.cut_valid.ensures

pub cut_valid-requires : goal.cut_valid-requires
cut_valid-requires c = valid_by _ _ c.is_valid.ensures (ap not c.if-not-is_valid.false)
