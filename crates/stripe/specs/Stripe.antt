-- Round-robin striping: which stripe and which object byte a file byte goes to, and the way back.
-- z is the stripe size in bytes, s the stripe count; division rounds down. What is in quotes is document 01's.
--
-- The file is cut into units of z bytes, counted from byte 0 of the file. Each round over the stripes fills one row of
-- z bytes in every object. With s = 3:
--
--                  stripe 0    stripe 1    stripe 2      object bytes
--        row 0     unit 0      unit 1      unit 2        0 to z
--        row 1     unit 3      unit 4      unit 5        z to 2z
--        row 2     unit 6      unit 7      unit 8        2z to 3z
--
-- Unit k is on stripe k mod s, in row k / s. Byte r of the unit is the object byte row x z + r.
--
-- The units are not counted from the begin of a component. Component 2 of document 01's layout A is [2M, 16M), 3 x 1M.
-- It begins in the middle of row 0 and ends in the middle of row 5; a dot is a unit outside it:
--
--                  stripe 0    stripe 1    stripe 2      object bytes
--        row 0     .           .           unit 2        0 to 1M         unit 2 begins at file byte 2M
--        row 1     unit 3      unit 4      unit 5        1M to 2M        unit 3 begins at file byte 3M
--        row 2     unit 6      unit 7      unit 8        2M to 3M
--        ..
--        row 5     unit 15     .           .             5M to 6M        unit 15 ends at file byte 16M
--
-- So file byte 2M is in unit 2: stripe 2, row 0, object byte 0 (example b). File byte 3M is in unit 3: stripe 0, row 1,
-- object byte 1M (example c is five bytes after it). A count from the component's begin would put them on stripes 0 and
-- 1, both at object byte 0.
use Rattle.std.specs.Prelude.{ℕ, ◌+◌, ◌*◌, ◌/◌, ◌%◌, ◌^◌, cond, ltb, Option, None, Some}

-- The unit of the file byte o: "unit k = O / z rounded down".
unfoldable pub unit_of : ℕ → ℕ → ℕ
unit_of z o = o / z

-- The stripe of the file byte o, counted from 0: "stripe k mod S".
unfoldable pub stripe_of : ℕ → ℕ → ℕ → ℕ
stripe_of z s o = unit_of z o % s

-- The byte of that stripe's object that the file byte o is: "object byte (k / S rounded down) x z + O mod z".
unfoldable pub object_byte : ℕ → ℕ → ℕ → ℕ
object_byte z s o = unit_of z o / s * z + o % z

-- The file byte of the object byte p, "where the object is stripe i of its component, ((p / z) x S + i) x z + p mod z,
-- division rounded down".
unfoldable pub file_byte : ℕ → ℕ → ℕ → ℕ → ℕ
file_byte z s i p = (p / z * s + i) * z + p % z

-- The file byte of the object byte p of stripe i if it is below 2^64, and `None` for 14, "its file offset is .. not
-- below 2^64".
unfoldable pub file_byte_below : ℕ → ℕ → ℕ → ℕ → Option ℕ
file_byte_below z s i p = cond (ltb (file_byte z s i p) (2 ^ 64)) (Some (file_byte z s i p)) None
