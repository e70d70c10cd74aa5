-- `collector::run::next_page` meets its contract: its tests are those of the definition, in their order.
use Prim.Native.Nat.{◌<◌}
use mathlib.Core.Path.{◌≡◌}
use native.Mathlib.Omega.{arith}
use lib.ListN.{length, length-drop}
use borrow.Author.Rules.{rules}
use borrow.Author.Tests.{tests}
use Rattle.std.proofs.Common.{drop-drop}
use Rattle.std.proofs.lemmas.List.{take_rest}
use Rattle.bytes_le.specs.Numbers.{u16_at}
use Rattle.collector.proofs.CutLaws.{listed_ended, listed_cut_lem, listed_long, listed_short, listed_next}
use Rattle.collector.proofs.run.next_page.Goals as goal
use Rattle.collector.proofs.run.next_page.Goals.{then-length-gt-MOST_LENGTH-via-then-length-gt-MOST_LENGTH}
use Rattle.collector.proofs.run.next_page.Goals.{then-length-gt-MOST_LENGTH-via-else-length-gt-MOST_LENGTH+then-rest-length}

pub returns-then-is_empty : goal.returns-then-is_empty
returns-then-is_empty c =
    let n : length c.args.s.now ≡ 0 = search (rules, tests) in
    rw (listed_ended c.args.s.now n)

pub returns-then-s-lt2 : goal.returns-then-s-lt2
returns-then-s-lt2 c =
    let n : 0 < length c.args.s.now = search (rules, tests) in
    rw (listed_cut_lem c.args.s.now n c.if-s-lt2.true)

pub returns-then-length-gt-MOST_LENGTH : goal.returns-then-length-gt-MOST_LENGTH
returns-then-length-gt-MOST_LENGTH c =
    let s = c.args.s.now in
    let n : 0 < length s = omega arith in
    let w : c.from-length.result ≡ u16_at s 0 = cc in
    elim c.then-length-gt-MOST_LENGTH.branch [
      | then-length-gt-MOST_LENGTH-via-then-length-gt-MOST_LENGTH w ↦ rw (listed_long s n (omega arith) (omega arith))
      | then-length-gt-MOST_LENGTH-via-else-length-gt-MOST_LENGTH+then-rest-length w ↦
          rw (listed_short s n (omega arith) (omega arith) (omega (arith, length-drop 2 s)))
    ]

pub returns : goal.returns
returns c =
    let s = c.args.s.now in
    let n : 0 < length s = omega arith in
    let e : c.from-length.result ≡ u16_at s 0 = cc in
    let l = listed_next s n (omega arith) (omega arith) (omega arith) in
    rw (l, c.split_at.ensures.front, c.split_at.ensures.back, take_rest s 2, drop-drop, e)
