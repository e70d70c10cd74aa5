-- `mapping::back` meets its contract: refusal 1 is asked first, and of a valid layout those of `back_valid`.
use mathlib.Core.Path.{ap}
use mathlib.Core.Bool.{not}
use Rattle.mapping.specs.AnswerLaws.{invalid_by, valid_by}
use Rattle.mapping.specs.Back.{back_in, back_of, back_says}
use Rattle.mapping.proofs.back.Goals as goal

pub returns-then-not-is_valid : goal.returns-then-not-is_valid
unfolding back_says back_in back_of
returns-then-not-is_valid c = rw (invalid_by _ _ c.is_valid.ensures (ap not c.if-not-is_valid.true))

pub back_valid-requires : goal.back_valid-requires
unfolding back_says back_in back_of
back_valid-requires c = valid_by _ _ c.is_valid.ensures (ap not c.if-not-is_valid.false)

pub returns : goal.returns
unfolding back_says back_in back_of
returns c = rw (valid_by _ _ c.is_valid.ensures (ap not c.if-not-is_valid.false)) c.back_valid.ensures
