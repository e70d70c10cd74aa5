-- `mapping::lookup` meets its contract: refusal 1 is asked first, and of a valid layout those of `lookup_valid`.
use mathlib.Core.Path.{ap}
use mathlib.Core.Bool.{not}
use Rattle.mapping.specs.AnswerLaws.{invalid_by, valid_by}
use Rattle.mapping.specs.Lookup.{lookup_in, lookup_of, lookup_says}
use Rattle.mapping.proofs.lookup.Goals as goal

pub returns-then-not-is_valid : goal.returns-then-not-is_valid
unfolding lookup_says lookup_in lookup_of
returns-then-not-is_valid c = rw (invalid_by _ _ c.is_valid.ensures (ap not c.if-not-is_valid.true))

pub lookup_valid-requires : goal.lookup_valid-requires
unfolding lookup_says lookup_in lookup_of
lookup_valid-requires c = valid_by _ _ c.is_valid.ensures (ap not c.if-not-is_valid.false)

pub returns : goal.returns
unfolding lookup_says lookup_in lookup_of
returns c = rw (valid_by _ _ c.is_valid.ensures (ap not c.if-not-is_valid.false)) c.lookup_valid.ensures
