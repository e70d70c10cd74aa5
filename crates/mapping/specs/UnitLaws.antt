-- The laws of the pieces of one component: units and their count, and the numbers that pieces are written as.
use Rattle.std.specs.Prelude.{ℕ, zero, suc, ◌+◌, ◌-◌, ◌*◌, ◌/◌, ◌%◌, ◌^◌, ◌≤◌, ◌<◌, min, ◌≡◌, refl, List, [], ◌∷◌, ◌++◌, ltb, length}
use Rattle.std.proofs.Common.{ap, ◌∙◌, add-mul, mod-lt, div-add-mod', le-div_iff_mul-le, div-lt_iff_lt-mul, arith, lt-ltb, le-ltb}
use Rattle.std.proofs.Math.Nat.{div-eq_of_lt, mul-add-div_right, min-eq_left, min-eq_right}
use Rattle.lists.specs.Bools.{cond_elim}
use Rattle.stripe.specs.Stripe.{unit_of}
use Rattle.stripe.proofs.Laws.{unit_next}
use Rattle.mapping.specs.declared.Piece.{Piece}
use Rattle.mapping.specs.Cutting.{unit_end, unit_count, piece_from, unit_pieces}
use Rattle.mapping.specs.Cutting.{piece_numbers, all_numbers}

-- The unit of a ends as many bytes on as it still has.
pub unit_end_lem : (z a : ℕ) → 0 < z → unit_end z a ≡ a + (z - a % z)
unfolding unit_end unit_of
unit_end_lem z a hz = omega (arith, div-add-mod' a z, add-mul (a / z) 1 z, mod-lt a hz)

-- If there is no byte from a to b, there is no unit.
pub unit_count_none : (z a b : ℕ) → b ≤ a → unit_count z a b ≡ 0
unfolding unit_count
unit_count_none z a b h = rw (le-ltb a b h)

-- Else they are the units from that of a to that of the last byte.
unit_count_some : (z a b : ℕ) → a < b → unit_count z a b ≡ unit_of z (b - 1) - unit_of z a + 1
unfolding unit_count
unit_count_some z a b h = rw (lt-ltb a b h)

-- The same by one division, of the bytes counted from the begin of a's unit.
pub unit_count_within : (z a b : ℕ) → 0 < z → a < b → unit_count z a b ≡ (a % z + (b - a - 1)) / z + 1
unfolding unit_of
unit_count_within z a b hz h =
    let e : b - 1 ≡ a / z * z + (a % z + (b - a - 1)) = omega (arith, div-add-mod' a z) in
    let q : (b - 1) / z ≡ a / z + (a % z + (b - a - 1)) / z
    = rw e (mul-add-div_right hz (a / z) (a % z + (b - a - 1))) in
    unit_count_some z a b h ∙ omega (arith, q)

-- If b lies in the unit of a or at its end, that unit is the only one.
pub unit_count_last : (z a b : ℕ) → 0 < z → a < b → b ≤ unit_end z a → unit_count z a b ≡ 1
unit_count_last z a b hz h k =
    let e : a % z + (b - a - 1) < z = omega (arith, unit_end_lem z a hz, mod-lt a hz) in
    unit_count_within z a b hz h ∙ omega (arith, div-eq_of_lt e)

-- If b lies after the unit of a, there are that unit and those from the next one on.
pub unit_count_next : (z a b : ℕ) → 0 < z → unit_end z a < b → unit_count z a b ≡ suc (unit_count z (unit_end z a) b)
unfolding unit_of unit_end
unit_count_next z a b hz h =
    let r = mod-lt a hz in
    let d : a % z + (z - a % z) ≡ z = omega arith in
    let u : unit_of z (unit_end z a) ≡ unit_of z a + 1 = rw (unit_end_lem z a hz) (unit_next z a (z - a % z) hz d) in
    let l : unit_of z a + 1 ≤ unit_of z (b - 1) = (le-div_iff_mul-le hz).1 (omega arith) in
    let n : a < unit_end z a = omega (arith, unit_end_lem z a hz) in
    omega (arith, unit_count_some z a b (omega arith), unit_count_some z (unit_end z a) b h)

-- With a stripe size of at least 65,536, no file has more than 2^48 units.
pub unit_count_bound : (z a b : ℕ) → 65536 ≤ z → b < 2 ^ 64 → unit_count z a b ≤ 2 ^ 48
unfolding unit_count unit_of
unit_count_bound z a b hz hb =
    let p : 0 < z = omega arith in
    let q : (b - 1) / z < 2 ^ 48 = (div-lt_iff_lt-mul p).1 (omega arith) in
    cond_elim (λ (n : ℕ). n ≤ 2 ^ 48) (ltb a b) (λ e. omega arith) (λ e. omega arith)

-- The first n pieces are n.
pub length_units : (n id z s a b : ℕ) → length (unit_pieces n id z s a b) ≡ n
length_units zero id z s a b = refl
length_units (suc n) id z s a b = ap suc (length_units n id z s (min (unit_end z a) b) b)

-- If b lies after the unit of a, the first piece ends with that unit.
pub units_next : (id z s a b : ℕ) → 0 < z → unit_end z a < b →
    unit_pieces (unit_count z a b) id z s a b
    ≡ piece_from id z s a (unit_end z a) ∷ unit_pieces (unit_count z (unit_end z a) b) id z s (unit_end z a) b
units_next id z s a b hz h = rw (unit_count_next z a b hz h, min-eq_left {n = unit_end z a} {m = b} (omega arith)) refl

-- If b lies in the unit of a or at its end, there is one piece, and it ends at b.
pub units_last : (id z s a b : ℕ) → 0 < z → a < b → b ≤ unit_end z a →
    unit_pieces (unit_count z a b) id z s a b ≡ piece_from id z s a b ∷ []
units_last id z s a b hz h k = rw (unit_count_last z a b hz h k, min-eq_right k)

-- A piece is five numbers.
pub length_numbers : (ps : List Piece) → length (all_numbers ps) ≡ 5 * length ps
length_numbers [] = refl
length_numbers (p ∷ ps) = omega (arith, length_numbers ps)

-- The numbers of two runs of pieces, one after the other.
pub numbers_append : (ps qs : List Piece) → all_numbers (ps ++ qs) ≡ all_numbers ps ++ all_numbers qs
numbers_append [] qs = refl
numbers_append (p ∷ ps) qs = ap (λ (ns : List ℕ). piece_numbers p ++ ns) (numbers_append ps qs)
