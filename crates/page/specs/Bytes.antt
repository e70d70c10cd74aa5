-- What records and a page are written as.
use Rattle.std.specs.Prelude.{ℕ, ◌+◌, ◌*◌, List, [], ◌∷◌, ◌++◌, false, length}
use Rattle.bytes_le.specs.Numbers.{u16_bytes, u32_bytes, u64_bytes, bits_of}
use Rattle.bytes_le.specs.Flags.{flag_word}
use Rattle.layout.specs.declared.Object.{Object}
use Rattle.layout.specs.declared.Component.{Component}
use Rattle.layout.specs.Records.{records_of}
use Rattle.page.specs.declared.Head.{Head}

-- "Object, 16 bytes: mark 4F 42; two zero bytes; u32 target; u64 object number."
unfoldable pub object_bytes : Object → List ℕ
object_bytes o = u16_bytes 0x424F ++ u16_bytes 0 ++ u32_bytes o.target ++ u64_bytes o.number

-- Object records, one after the other.
abbrev pub objects_bytes : List Object → List ℕ
objects_bytes [] = []
objects_bytes (o ∷ os) = object_bytes o ++ objects_bytes os

-- Four numbers of two bytes, as a page head and a component begin.
unfoldable pub words : ℕ → ℕ → ℕ → ℕ → List ℕ
words a b c d = u16_bytes a ++ u16_bytes b ++ u16_bytes c ++ u16_bytes d

-- Three numbers of eight bytes, as a component ends.
unfoldable pub longs : ℕ → ℕ → ℕ → List ℕ
longs a b c = u64_bytes a ++ u64_bytes b ++ u64_bytes c

-- "Component, 40 bytes: mark 43 50; u16 flags, ..; u16 id; u16 stripe count; u32 stripe size; i32 first target; u64
-- begin; u64 end; u64 extension size."
unfoldable pub field_bytes : Component → List ℕ
field_bytes c =
    words 0x5043 (flag_word c.init c.extension) c.id c.stripe_count
    ++ u32_bytes c.stripe_size
    ++ u32_bytes (bits_of c.first_target)
    ++ longs c.begin c.end c.extension_size

-- A component and after it its object records: "If init, as many object records as the stripe count follow, in the
-- same page."
unfoldable pub component_bytes : Component → List ℕ
component_bytes c = field_bytes c ++ objects_bytes (records_of c)

-- Components, one after the other.
abbrev pub components_bytes : List Component → List ℕ
components_bytes [] = []
components_bytes (c ∷ cs) = component_bytes c ++ components_bytes cs

-- The number of bytes that a component takes in a page.
abbrev pub size_of : Component → ℕ
size_of c = 40 + 16 * length (records_of c)

-- "Page head, 16 bytes: mark 50 48; u16 flags (bit 0 more, the rest 0); u16 page number from 0; u16 components in the
-- page, at least 1; u32 generation; four zero bytes."
unfoldable pub head_bytes : Head → List ℕ
head_bytes h = words 0x4850 (flag_word h.more false) h.number h.count ++ u32_bytes h.generation ++ u32_bytes 0

-- A page.
unfoldable pub page_bytes : Head → List Component → List ℕ
page_bytes h cs = head_bytes h ++ components_bytes cs
