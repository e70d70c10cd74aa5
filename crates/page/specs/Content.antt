-- What a page says: its head, and the components at their places. Decoding is total: it is defined on all bytes and at
-- all places, and means something if the page has its form.
use Rattle.std.specs.Prelude.{ℕ, zero, suc, ◌+◌, min, List, [], ◌∷◌, map}
use Rattle.bytes_le.specs.Numbers.{u16_at, u32_at, u64_at, i32_at}
use Rattle.bytes_le.specs.Flags.{is_set}
use Rattle.layout.specs.declared.Object.{Object}
use Rattle.layout.specs.declared.Component.{Component}
use Rattle.layout.specs.Records.{pack_objects}
use Rattle.page.specs.declared.Head.{Head}
use Rattle.page.specs.Form.{records_at, counted, places_from}

-- "Object, 16 bytes: ..; u32 target; u64 object number."
unfoldable pub object_at : List ℕ → ℕ → Object
object_at s at = record { target = u32_at s (at + 4); number = u64_at s (at + 8) }

-- The n object records from a place on.
abbrev pub objects_at : ℕ → List ℕ → ℕ → List Object
objects_at zero s at = []
objects_at (suc n) s at = object_at s at ∷ objects_at n s (at + 16)

-- "Component, 40 bytes: ..; u16 flags, of which only bits 0 (init) and 1 (extension) may be set; u16 id; u16 stripe
-- count; u32 stripe size; i32 first target; u64 begin; u64 end; u64 extension size." Of more than 16 object records the
-- first 16 are kept; rule 6 refuses such a component by its stripe count.
unfoldable pub component_at : List ℕ → ℕ → Component
component_at s at =
    record {
      init = is_set 0 (u16_at s (at + 2));
      extension = is_set 1 (u16_at s (at + 2));
      id = u16_at s (at + 4);
      stripe_count = u16_at s (at + 6);
      stripe_size = u32_at s (at + 8);
      first_target = i32_at s (at + 12);
      begin = u64_at s (at + 16);
      end = u64_at s (at + 24);
      extension_size = u64_at s (at + 32);
      objects = pack_objects (objects_at (min 16 (records_at s at)) s (at + 40));
    }

-- "Page head, 16 bytes: ..; u16 flags (bit 0 more, the rest 0); u16 page number from 0; u16 components in the page, ..;
-- u32 generation"
unfoldable pub head_of : List ℕ → Head
head_of s = record { more = is_set 0 (u16_at s 2); number = u16_at s 4; count = counted s; generation = u32_at s 8 }

-- The components of a page.
unfoldable pub components_of : List ℕ → List Component
components_of s = map (component_at s) (places_from (counted s) s 16)
