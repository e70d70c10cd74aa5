-- `bytes_le::flags::word` meets its contract: each of the four words is the sum of its flags.
use Rattle.std.proofs.Common.{◌≡◌, ◌+◌, ◌*◌, Bool, true, false, refl}
use Rattle.std.specs.Int.{from_bool}
use Rattle.bytes_le.specs.Flags.{flag_word}
use Rattle.bytes_le.proofs.flags.word.Goals as goal

sum_of : (a b : Bool) → from_bool a + 2 * from_bool b ≡ flag_word a b
unfolding flag_word
sum_of true true = refl
sum_of true false = refl
sum_of false true = refl
sum_of false false = refl

pub returns : goal.returns
returns c = rw (c.from.ensures, c.from-2.ensures) (sum_of c.args.first c.args.second)
