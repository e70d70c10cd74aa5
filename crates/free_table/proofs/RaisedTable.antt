-- Lent records raised one by one: how many are looked at, and what all the records are once that is done.
use Rattle.std.specs.Prelude.{ℕ, zero, suc, ◌≤◌, ◌≡◌, List, map, length, take}
use Rattle.std.proofs.Common.{sym, arith}
use Rattle.std.proofs.Math.Dec.{eqb-suc-zero}
use Rattle.lists.specs.Slices.{map_first, first_all}
use Rattle.layout.specs.declared.Object.{Object}
use Rattle.free_table.specs.declared.TargetRecord.{TargetRecord}
use Rattle.free_table.specs.ChosenFacts.{raised_in}
use Rattle.free_table.proofs.ChosenLaws.{raised_in_none}
use Rattle.free_table.specs.Raising.{records_raised}

-- No more records are looked at than there are.
pub raised_le : (m n : ℕ) → records_raised m n ≤ m
raised_le m zero = omega arith
raised_le m (suc n) = rw (eqb-suc-zero n) (omega arith)

-- Once that is done every record is as `raised_in` says. If n is 0 none is looked at, and none is to be raised.
pub raised_all : (os : List Object) (n : ℕ) (rs : List TargetRecord)
    → map_first (raised_in (take n os)) (records_raised (length rs) n) rs ≡ map (raised_in (take n os)) rs
raised_all os zero rs = sym (raised_in_none rs)
raised_all os (suc n) rs = rw (eqb-suc-zero n) (first_all (raised_in (take (suc n) os)) rs)
