-- `in_place::neighbours::check_new` meets its contract: the components asked so far and those that are left give what
-- all give.
use Rattle.std.proofs.Common.{◌≡◌, drop}
use Rattle.in_place.specs.Places.{components_at}
use Rattle.in_place.specs.Joining.{new_rule_broken}
use Rattle.in_place.proofs.Joined.{broken_from}
use Rattle.in_place.proofs.neighbours.check_new.Given as goal

abbrev pub invariant-loop-at : goal.invariant-loop-at
invariant-loop-at l =
    new_rule_broken l.more (components_at l.s l.old) (components_at l.s l.new)
    ≡ broken_from l.more l.sound l.joined l.last (components_at l.s (drop l.at-index l.new))
