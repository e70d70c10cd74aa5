-- The places at which a file is cut, said by themselves and not by pieces. What is in quotes is document 01's.
use Rattle.std.specs.Prelude.{ℕ, zero, suc, ◌+◌, ◌%◌, List, Bool, ◌&&◌, ◌||◌, eqb}
use Rattle.lists.specs.Tests.{any_of}
use Rattle.lists.specs.Counting.{bit}
use Rattle.layout.specs.declared.Component.{Component}
use Rattle.layout.specs.Holder.{holds}

-- The file is cut before byte q on account of a component: q is a border of it, or q lies in it and is a multiple of
-- its stripe size.
abbrev pub cuts_at : ℕ → Component → Bool
cuts_at q c = eqb q c.begin || eqb q c.end || holds c q && eqb (q % c.stripe_size) 0

-- "cut at every component border and every multiple of the component's stripe size"
unfoldable pub cut_place : List Component → ℕ → Bool
cut_place cs q = any_of (cuts_at q) cs

-- How many of the n numbers after a pass a test.
abbrev pub count_after : (ℕ → Bool) → ℕ → ℕ → ℕ
count_after test a zero = 0
count_after test a (suc n) = count_after test a n + bit (test (a + suc n))

-- "the number of different cut places strictly inside the request plus one, or 0 for length 0"
abbrev pub count_by_places : ℕ → ℕ → List Component → ℕ
count_by_places a zero cs = 0
count_by_places a (suc m) cs = count_after (cut_place cs) a m + 1
