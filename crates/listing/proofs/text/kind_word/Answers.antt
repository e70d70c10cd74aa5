-- `listing::text::kind_word` meets its contract: by the two flags.
use Rattle.listing.specs.Listing.{kind_word}
use Rattle.listing.proofs.text.kind_word.Goals as goal

pub returns-then-c-clause-value : goal.returns-then-c-clause-value
unfolding kind_word
returns-then-c-clause-value c = rw c.if-c.true

pub returns-then-c-2-clause-value : goal.returns-then-c-2-clause-value
unfolding kind_word
returns-then-c-2-clause-value c = rw (c.if-c.false, c.if-c-2.true)

pub returns-else-c-2-clause-value : goal.returns-else-c-2-clause-value
unfolding kind_word
returns-else-c-2-clause-value c = rw (c.if-c.false, c.if-c-2.false)
