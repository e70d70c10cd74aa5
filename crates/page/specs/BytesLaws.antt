-- How many bytes records and a page are written as, and what lists of components are written as, one after the other.
use Rattle.std.specs.Prelude.{ℕ, ◌+◌, ◌*◌, ◌≡◌, refl, List, [], ◌∷◌, ◌++◌, length}
use Rattle.std.proofs.Common.{append_assoc, arith, length-append}
use Rattle.bytes_le.specs.Numbers.{u16_bytes, u32_bytes, u64_bytes}
use Rattle.layout.specs.declared.Object.{Object}
use Rattle.layout.specs.declared.Component.{Component}
use Rattle.layout.specs.Records.{records_of}
use Rattle.page.specs.declared.Head.{Head}
use Rattle.page.specs.Bytes.{object_bytes, objects_bytes, words, longs, field_bytes, component_bytes, size_of}
use Rattle.page.specs.Bytes.{components_bytes, head_bytes, page_bytes}

-- "Object, 16 bytes"
pub length_object : (o : Object) → length (object_bytes o) ≡ 16
unfolding object_bytes u16_bytes u32_bytes u64_bytes
length_object o = refl

-- Object records take 16 bytes each.
pub length_objects : (os : List Object) → length (objects_bytes os) ≡ 16 * length os
length_objects [] = refl
length_objects (o ∷ os) = rw (length-append, length_object o, length_objects os) (omega arith)

-- "Component, 40 bytes"
pub length_fields : (c : Component) → length (field_bytes c) ≡ 40
unfolding field_bytes words longs u16_bytes u32_bytes u64_bytes
length_fields c = refl

-- A component takes 40 bytes and its object records 16 each.
pub length_component : (c : Component) → length (component_bytes c) ≡ size_of c
unfolding component_bytes
length_component c = rw (length-append, length_fields c, length_objects (records_of c))

-- The number of bytes that components take in a page.
abbrev pub total : List Component → ℕ
total [] = 0
total (c ∷ cs) = size_of c + total cs

-- Components are written into that number of bytes.
pub length_components_bytes : (cs : List Component) → length (components_bytes cs) ≡ total cs
length_components_bytes [] = refl
length_components_bytes (c ∷ cs) = rw (length-append, length_component c, length_components_bytes cs)

-- "Page head, 16 bytes"
pub length_head : (h : Head) → length (head_bytes h) ≡ 16
unfolding head_bytes words u16_bytes u32_bytes
length_head h = refl

-- A page takes 16 bytes and those of its components.
pub length_page : (h : Head) (cs : List Component) → length (page_bytes h cs) ≡ 16 + total cs
unfolding page_bytes
length_page h cs = rw (length-append, length_head h, length_components_bytes cs)

-- Of two lists of components one after the other, the bytes of the second are after those of the first.
pub components_bytes_append : (cs ds : List Component)
    → components_bytes (cs ++ ds) ≡ components_bytes cs ++ components_bytes ds
components_bytes_append [] ds = refl
components_bytes_append (c ∷ cs) ds = rw (components_bytes_append cs ds, append_assoc)

-- Of two lists of components one after the other, the numbers of bytes add up.
pub total_append : (cs ds : List Component) → total (cs ++ ds) ≡ total cs + total ds
total_append [] ds = omega arith
total_append (c ∷ cs) ds = omega (arith, total_append cs ds)
