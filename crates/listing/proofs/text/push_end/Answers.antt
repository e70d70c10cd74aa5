-- `listing::text::push_end` meets its contract: by the one number that is EOF.
use Rattle.std.proofs.Common.{eq-eqb, ne_eqb}
use Rattle.listing.specs.Listing.{end_word}
use Rattle.listing.proofs.Digits.{printed-decimal}
use Rattle.listing.proofs.text.push_end.Goals as goal

pub returns-then-end-eq-EOF-clause-value : goal.returns-then-end-eq-EOF-clause-value
unfolding end_word
returns-then-end-eq-EOF-clause-value c =
    rw (eq-eqb c.args.end 18446744073709551615 c.if-end-eq-EOF.true) c.push_word.ensures.value

pub returns-else-end-eq-EOF-clause-value : goal.returns-else-end-eq-EOF-clause-value
unfolding end_word
returns-else-end-eq-EOF-clause-value c =
    rw (ne_eqb c.args.end 18446744073709551615 c.if-end-eq-EOF.false, ← printed-decimal c.args.end c.ranges.end.fits)
    c.push_number.ensures.value
