-- Runs of stores one after the other, as calls that write leave them, and the lengths of what the calls write.
use Prim.Native.Nat.{ℕ, suc, ◌+◌, ◌*◌}
use mathlib.Core.Path.{◌≡◌}
use mathlib.Core.List.{List, ◌∷◌}
use mathlib.Core.Bool.{false}
use native.Mathlib.Omega.{arith}
use native.Mathlib.Nat.{add_assoc}
use lib.ListN.{length, length-append}
use lib.Seq.{sets}
use Rattle.bytes_le.specs.Flags.{flag_word}
use Rattle.bytes_le.specs.Numbers.{u16_bytes, u32_bytes, u64_bytes, bits_of}
use Rattle.bytes_le.specs.NumberLaws.{u16_length, u32_length, u64_length}
use Rattle.layout.specs.declared.Object.{Object}
use Rattle.layout.specs.declared.Component.{Component}
use Rattle.layout.specs.Records.{records_of}
use Rattle.lists.specs.Slices.{sets_append}
use Rattle.page.specs.declared.Head.{Head}
use Rattle.page.specs.Bytes.{object_bytes, objects_bytes, words, longs, field_bytes, component_bytes, head_bytes}
use Rattle.page.specs.BytesLaws.{length_object, length_fields}

-- What calls leave, each of which writes where the one before ended: one run. The four numbers of an object record,
pub object_stored : (s : List ℕ) (at : ℕ) (o : Object)
    → sets (sets (sets (sets s at (u16_bytes 0x424F)) (at + 2) (u16_bytes 0)) (at + 4) (u32_bytes o.target)) (at + 8)
    (u64_bytes o.number)
    ≡ sets s at (object_bytes o)
unfolding object_bytes
object_stored s at o = simp (sets_append, length-append, u16_length, u32_length)

-- the fields of a component,
pub fields_stored : (s : List ℕ) (at : ℕ) (c : Component) (flags : ℕ) → flags ≡ flag_word c.init c.extension
    → sets (sets (sets (sets (sets (sets (sets (sets (sets s at (u16_bytes 0x5043)) (at + 2) (u16_bytes flags))
    (at + 4) (u16_bytes c.id)) (at + 6) (u16_bytes c.stripe_count)) (at + 8) (u32_bytes c.stripe_size))
    (at + 12) (u32_bytes (bits_of c.first_target))) (at + 16) (u64_bytes c.begin)) (at + 24) (u64_bytes c.end))
    (at + 32) (u64_bytes c.extension_size)
    ≡ sets s at (field_bytes c)
unfolding field_bytes words longs
fields_stored s at c flags f = rw f (simp (sets_append, length-append, u16_length, u32_length, u64_length, add_assoc))

-- a component with its object records,
pub component_stored : (s : List ℕ) (at : ℕ) (c : Component)
    → sets (sets s at (field_bytes c)) (at + 40) (objects_bytes (records_of c)) ≡ sets s at (component_bytes c)
unfolding component_bytes
component_stored s at c = simp (sets_append, length_fields)

-- and a page head.
pub head_stored : (s : List ℕ) (h : Head) (flags : ℕ) → flags ≡ flag_word h.more false
    → sets (sets (sets (sets (sets (sets s 0 (u16_bytes 0x4850)) 2 (u16_bytes flags)) 4 (u16_bytes h.number))
    6 (u16_bytes h.count)) 8 (u32_bytes h.generation)) 12 (u32_bytes 0)
    ≡ sets s 0 (head_bytes h)
unfolding head_bytes words
head_stored s h flags f = rw f (simp (sets_append, length-append, u16_length, u32_length))

-- Once object record i is stored after i others, the records after it are left to store, 16 bytes further on.
pub object_turn : (b b₁ : List ℕ) (at i place : ℕ) (o : Object) (os : List Object) → b₁ ≡ sets b place (object_bytes o)
    → place ≡ at + 16 * i → sets b (at + 16 * i) (objects_bytes (o ∷ os)) ≡ sets b₁ (at + 16 * suc i) (objects_bytes os)
object_turn b b₁ at i place o os p h =
    let e : at + 16 * i + length (object_bytes o) ≡ at + 16 * suc i = omega (arith, length_object o) in
    rw (p, h, ← e) (sets_append b (at + 16 * i) (object_bytes o) (objects_bytes os))
