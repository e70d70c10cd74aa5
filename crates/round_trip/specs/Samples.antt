-- Document 01's page of 72 bytes and its layout B, and that the definitions read and write them as the paper says.
use Rattle.std.specs.Prelude.{ℕ, ◌≡◌, refl, List, [], ◌∷◌, Ok}
use Rattle.bytes_le.specs.Numbers.{u16_at, u32_at, u64_at, i32_of, u16_bytes, u32_bytes, u64_bytes, bits_of}
use Rattle.bytes_le.specs.Flags.{is_set, only_first, flag_word}
use Rattle.layout.specs.declared.Component.{Component}
use Rattle.layout.specs.declared.Layout.{Layout}
use Rattle.layout.specs.Records.{pack_objects, pack_components, packed}
use Rattle.layout.specs.Fields.{nonzero_multiple, extension_ok, striped_ok, kind_ok}
use Rattle.layout.specs.Fields.{is_minus_one, is_target, first_target_ok, fields_ok}
use Rattle.layout.specs.Neighbours.{neighbours_hold}
use Rattle.layout.specs.Distinct.{same_object, distinct_hold}
use Rattle.layout.specs.Rules.{rule_broken}
use Rattle.layout.specs.Samples.{init_of, bare_of, extension_of, one_page, layout_b}
use Rattle.page.specs.Form.{object_form, component_marks, records_at, component_form, head_form, form_by, page_form}
use Rattle.page.specs.Content.{object_at, component_at, head_of, components_of}
use Rattle.page.specs.Bytes.{object_bytes, words, longs, field_bytes, component_bytes, head_bytes, page_bytes}
use Rattle.collector.specs.Taking.{Taken}
use Rattle.collector.specs.declared.Answer.TheVariants.{Complete}
use Rattle.collector.specs.Collector.{new_collector, counts_agree, collector_ok}
use Rattle.collector.specs.Taking.{is_next, content_refusal, open_refusal, page_refusal, settled, page_in}
use Rattle.paging.specs.Paging.{written_page}
use Rattle.round_trip.specs.Pages.{written_pages}

-- One page was taken and is all: what the page call gives then.
abbrev complete : ℕ → List Component → Taken
complete generation cs =
    record {
      answer = Ok Complete;
      collector = record { pages = 1; layout = packed generation cs };
    }

-- What the readings and writings below compute with.
reading : List ℕ → Taken
unfolding settled page_refusal open_refusal content_refusal is_next collector_ok counts_agree page_form form_by head_form
    component_form component_marks records_at object_form head_of components_of component_at object_at u16_at u32_at u64_at i32_of
    is_set only_first pack_objects pack_components rule_broken fields_ok kind_ok extension_ok striped_ok nonzero_multiple
    first_target_ok is_target is_minus_one neighbours_hold distinct_hold same_object
reading bytes = page_in new_collector bytes

writing : Layout → List (List ℕ)
unfolding written_pages written_page page_bytes head_bytes words component_bytes field_bytes longs object_bytes u16_bytes
    u32_bytes u64_bytes bits_of flag_word pack_objects pack_components
writing l = written_pages l

-- "One whole page, 72 bytes (generation 5, one component of 64 KiB on target 2, object 7)".
unfoldable pub sample : List ℕ
sample =
    0x50 ∷ 0x48 ∷ 0x00 ∷ 0x00 ∷ 0x00 ∷ 0x00 ∷ 0x01 ∷ 0x00 ∷ 0x05 ∷ 0x00 ∷ 0x00 ∷ 0x00 ∷ 0x00 ∷ 0x00 ∷ 0x00 ∷ 0x00
    ∷ 0x43 ∷ 0x50 ∷ 0x01 ∷ 0x00 ∷ 0x01 ∷ 0x00 ∷ 0x01 ∷ 0x00 ∷ 0x00 ∷ 0x00 ∷ 0x01 ∷ 0x00 ∷ 0x02 ∷ 0x00 ∷ 0x00 ∷ 0x00
    ∷ 0x00 ∷ 0x00 ∷ 0x00 ∷ 0x00 ∷ 0x00 ∷ 0x00 ∷ 0x00 ∷ 0x00 ∷ 0x00 ∷ 0x00 ∷ 0x01 ∷ 0x00 ∷ 0x00 ∷ 0x00 ∷ 0x00 ∷ 0x00
    ∷ 0x00 ∷ 0x00 ∷ 0x00 ∷ 0x00 ∷ 0x00 ∷ 0x00 ∷ 0x00 ∷ 0x00
    ∷ 0x4F ∷ 0x42 ∷ 0x00 ∷ 0x00 ∷ 0x02 ∷ 0x00 ∷ 0x00 ∷ 0x00 ∷ 0x07 ∷ 0x00 ∷ 0x00 ∷ 0x00 ∷ 0x00 ∷ 0x00 ∷ 0x00 ∷ 0x00
    ∷ []

-- A new collector takes it and is complete, with the layout that the paper names.
pub sample_read : page_in new_collector sample ≡ complete 5 one_page
unfolding reading sample init_of one_page
sample_read = refl

-- That layout is written as that one page.
pub sample_written : written_pages (packed 5 one_page) ≡ sample ∷ []
unfolding writing init_of one_page sample
sample_written = refl

-- Layout B, "the listing above, component 1 on target 0", of generation 9, as one page: the fields by the paper's
-- tables.
unfoldable pub listing_page : List ℕ
listing_page =
    0x50 ∷ 0x48 ∷ 0x00 ∷ 0x00 ∷ 0x00 ∷ 0x00 ∷ 0x04 ∷ 0x00 ∷ 0x09 ∷ 0x00 ∷ 0x00 ∷ 0x00 ∷ 0x00 ∷ 0x00 ∷ 0x00 ∷ 0x00
    ∷ 0x43 ∷ 0x50 ∷ 0x01 ∷ 0x00 ∷ 0x01 ∷ 0x00 ∷ 0x01 ∷ 0x00 ∷ 0x00 ∷ 0x00 ∷ 0x10 ∷ 0x00 ∷ 0x00 ∷ 0x00 ∷ 0x00 ∷ 0x00
    ∷ 0x00 ∷ 0x00 ∷ 0x00 ∷ 0x00 ∷ 0x00 ∷ 0x00 ∷ 0x00 ∷ 0x00 ∷ 0x00 ∷ 0x00 ∷ 0x00 ∷ 0x01 ∷ 0x00 ∷ 0x00 ∷ 0x00 ∷ 0x00
    ∷ 0x00 ∷ 0x00 ∷ 0x00 ∷ 0x00 ∷ 0x00 ∷ 0x00 ∷ 0x00 ∷ 0x00 ∷ 0x4F ∷ 0x42 ∷ 0x00 ∷ 0x00 ∷ 0x00 ∷ 0x00 ∷ 0x00 ∷ 0x00
    ∷ 0x0A ∷ 0x00 ∷ 0x00 ∷ 0x00 ∷ 0x00 ∷ 0x00 ∷ 0x00 ∷ 0x00 ∷ 0x43 ∷ 0x50 ∷ 0x02 ∷ 0x00 ∷ 0x02 ∷ 0x00 ∷ 0x00 ∷ 0x00
    ∷ 0x00 ∷ 0x00 ∷ 0x00 ∷ 0x00 ∷ 0xFF ∷ 0xFF ∷ 0xFF ∷ 0xFF ∷ 0x00 ∷ 0x00 ∷ 0x00 ∷ 0x01 ∷ 0x00 ∷ 0x00 ∷ 0x00 ∷ 0x00
    ∷ 0x00 ∷ 0x00 ∷ 0x40 ∷ 0x06 ∷ 0x00 ∷ 0x00 ∷ 0x00 ∷ 0x00 ∷ 0x00 ∷ 0x00 ∷ 0x00 ∷ 0x01 ∷ 0x00 ∷ 0x00 ∷ 0x00 ∷ 0x00
    ∷ 0x43 ∷ 0x50 ∷ 0x00 ∷ 0x00 ∷ 0x03 ∷ 0x00 ∷ 0x01 ∷ 0x00 ∷ 0x00 ∷ 0x00 ∷ 0x10 ∷ 0x00 ∷ 0xFF ∷ 0xFF ∷ 0xFF ∷ 0xFF
    ∷ 0x00 ∷ 0x00 ∷ 0x40 ∷ 0x06 ∷ 0x00 ∷ 0x00 ∷ 0x00 ∷ 0x00 ∷ 0x00 ∷ 0x00 ∷ 0x40 ∷ 0x06 ∷ 0x00 ∷ 0x00 ∷ 0x00 ∷ 0x00
    ∷ 0x00 ∷ 0x00 ∷ 0x00 ∷ 0x00 ∷ 0x00 ∷ 0x00 ∷ 0x00 ∷ 0x00 ∷ 0x43 ∷ 0x50 ∷ 0x02 ∷ 0x00 ∷ 0x04 ∷ 0x00 ∷ 0x00 ∷ 0x00
    ∷ 0x00 ∷ 0x00 ∷ 0x00 ∷ 0x00 ∷ 0xFF ∷ 0xFF ∷ 0xFF ∷ 0xFF ∷ 0x00 ∷ 0x00 ∷ 0x40 ∷ 0x06 ∷ 0x00 ∷ 0x00 ∷ 0x00 ∷ 0x00
    ∷ 0xFF ∷ 0xFF ∷ 0xFF ∷ 0xFF ∷ 0xFF ∷ 0xFF ∷ 0xFF ∷ 0xFF ∷ 0x00 ∷ 0x00 ∷ 0x80 ∷ 0x01 ∷ 0x00 ∷ 0x00 ∷ 0x00 ∷ 0x00
    ∷ []

-- A new collector takes it and is complete, with layout B.
pub listing_read : page_in new_collector listing_page ≡ complete 9 layout_b
unfolding reading listing_page init_of bare_of extension_of layout_b
listing_read = refl

-- Layout B is written as that one page.
pub listing_written : written_pages (packed 9 layout_b) ≡ listing_page ∷ []
unfolding writing init_of bare_of extension_of layout_b listing_page
listing_written = refl
