-- `gateway::growing::first_record`: there are three words, or there are not.
use Rattle.std.proofs.Common.{◌≡◌, min, arith, get_or, length, le-leb}
use Rattle.std.proofs.lemmas.Bool.{lt-leb}
use Rattle.gateway.specs.LentWords.{record_at}
use Rattle.gateway.proofs.growing.first_record.Goals as goal

pub returns-in_default : goal.returns-in_default
unfolding record_at
returns-in_default c = rw (lt-leb 3 (length c.args.words.now) (omega arith))

pub returns-in-len3-up : goal.returns-in-len3-up
unfolding record_at
returns-in-len3-up c =
    let target : c.min.result ≡ min 65535 (get_or c.args.words.now 0 0) = omega arith in
    rw (target, le-leb 3 (length c.args.words.now) (omega arith))
