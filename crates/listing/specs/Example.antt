-- Document 01's example of the form: layout B, in one page after its length, is listed as the paper prints it.
use Rattle.std.specs.Prelude.{ℕ, ◌≡◌, refl, List, ◌++◌, false, length}
use Rattle.bytes_le.specs.Numbers.{u16_at, u32_at, u64_at, i32_of, u16_bytes, u32_bytes, u64_bytes, bits_of}
use Rattle.bytes_le.specs.Flags.{is_set, only_first, flag_word}
use Rattle.layout.specs.Records.{pack_objects, pack_components}
use Rattle.layout.specs.Fields.{nonzero_multiple, extension_ok, striped_ok, kind_ok}
use Rattle.layout.specs.Fields.{is_minus_one, is_target, first_target_ok, fields_ok}
use Rattle.layout.specs.Neighbours.{neighbours_hold}
use Rattle.layout.specs.Distinct.{same_object, distinct_hold}
use Rattle.layout.specs.Rules.{rule_broken}
use Rattle.layout.specs.Samples.{init_of, bare_of, extension_of, layout_b}
use Rattle.page.specs.Form.{object_form, component_marks, records_at, component_form, head_form, form_by, page_form}
use Rattle.page.specs.Content.{object_at, component_at, head_of, components_of}
use Rattle.page.specs.Bytes.{object_bytes, words, longs, field_bytes, component_bytes, head_bytes, page_bytes}
use Rattle.collector.specs.Collector.{counts_agree, collector_ok}
use Rattle.collector.specs.Taking.{number_of, is_next, content_refusal, open_refusal, page_refusal, settled}
use Rattle.collector.specs.Runs.{read_run, listed_cut}
use Rattle.listing.specs.Texts.{ascii}
use Rattle.listing.specs.Listing.{decimal, signed, end_word, kind_word, listing_of}

-- "Layout B: the listing above, component 1 on target 0", in one page.
abbrev page_b : List ℕ
page_b = page_bytes (record { more = false; number = 0; count = 4; generation = 9 }) layout_b

-- "prints exactly this form"
abbrev printed : List ℕ
printed =
    ascii "layout 9 components 4\n"
    ++ ascii "1 0 16777216 init 1 1048576 0\n"
    ++ ascii "2 16777216 104857600 extension 0 16777216 -1\n"
    ++ ascii "3 104857600 104857600 bare 1 1048576 -1\n"
    ++ ascii "4 104857600 eof extension 0 25165824 -1\n"

pub paper_listing : listing_of (u16_bytes (length page_b) ++ page_b) ≡ printed
unfolding listing_of read_run listed_cut settled page_refusal open_refusal content_refusal number_of is_next collector_ok
    counts_agree page_form form_by head_form component_form component_marks records_at object_form head_of components_of
    component_at object_at u16_at u32_at u64_at i32_of is_set only_first pack_objects pack_components rule_broken fields_ok kind_ok
    extension_ok striped_ok nonzero_multiple first_target_ok is_target is_minus_one neighbours_hold distinct_hold same_object
    init_of bare_of extension_of layout_b page_bytes head_bytes words component_bytes field_bytes longs object_bytes u16_bytes
    u32_bytes u64_bytes bits_of flag_word decimal signed end_word kind_word
paper_listing = refl
