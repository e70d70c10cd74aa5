-- The promises on the entry points for C, over the bytes of the pages. `Promises` says how to read it. Each contract in
-- crates/gateway/src says that the call returns `.._number` and that each lent place holds `.._after`. `host_reading
-- pages` is the reading of the pages back to back (`read_run host_cut pages`), and `host_layout pages` the layout that
-- it gives. The entry points in crates/gateway_c/src have the same contracts.
-- Each promise is in two parts. If the reading is refused by n, the call returns n and leaves all that is lent: "a
-- refusal of that reading comes first". If it is not, the call returns and stores what the public call of that name
-- answers of the layout that was read, by the definitions that `Promises` names. What is in quotes is document 01's.
use Rattle.std.specs.Prelude.{ℕ, ◌≤◌, ◌<◌, ◌≡◌, Ok, Err, List, [], ◌∷◌, true, cond, length}
use Rattle.std.proofs.lemmas.List.Edits.{sets}
use Rattle.refusals.specs.declared.Refusal.{Refusal}
use Rattle.refusals.specs.Refusals.{number_of}
use Rattle.refusals.specs.Numbered.{numbered}
use Rattle.layout.specs.Records.{view}
use Rattle.layout.specs.Rules.{valid}
use Rattle.paging.specs.Paging.{written_page, out_refusal, out_answer}
use Rattle.mapping.specs.declared.ObjectHome.{ObjectHome}
use Rattle.mapping.specs.Homes.{Home}
use Rattle.mapping.specs.Lookup.{lookup_says, lookup_of}
use Rattle.mapping.specs.Back.{back_says, back_of}
use Rattle.mapping.specs.Cutting.{cut_pieces, all_numbers, cut_says, cut_of}
use Rattle.growth.specs.declared.Effect.{Effect}
use Rattle.moorsickle.specs.Answers.{grow_says}
use Rattle.gateway.specs.Host.{host_reading, host_layout, lookup_number, home_after, back_number, offset_after}
use Rattle.gateway.specs.Host.{cut_number, pieces_after, count_after, page_number, buffer_after, written_after}
use Rattle.gateway.proofs.HostLaws as host
use Rattle.gateway.specs.HostGrowth.{word_table, with_next_words, host_grown, pages_of}
use Rattle.gateway.specs.HostGrowth.{grow_number, table_after, grown_after, answer_after}
use Rattle.promises.specs.HostCallLaws as calls

-- A layout that was read is valid, so 1 is never the call's own number.
pub read_valid : (pages : List ℕ) → (host_reading pages).refusal ≡ 0 → valid (host_layout pages) ≡ true
read_valid = host.host_valid

-- `moorsickle_lookup` of byte b: the lent home then has the target and the number of the object, and the byte of it.
pub c_lookup : (pages : List ℕ) (b : ℕ) (home : List ℕ)
    → let number = lookup_number pages b in
    let after = home_after pages b home in
    let answer = lookup_of b (host_layout pages) in
    ((n : ℕ) → 0 < n → (host_reading pages).refusal ≡ n → (number ≡ n) × (after ≡ home))
    × ((host_reading pages).refusal ≡ 0
    → ((e : Refusal) → lookup_says (Err e) ≡ answer → (number ≡ number_of e) × (after ≡ home))
    × ((h : ObjectHome) → lookup_says (Ok h) ≡ answer
    → (number ≡ 0) × (after ≡ h.target ∷ h.number ∷ h.byte ∷ [])))
c_lookup = calls.c_lookup

-- `moorsickle_back` from the home h: the lent offset then is the file byte.
pub c_back : (pages : List ℕ) (h : Home) (offset : ℕ)
    → let number = back_number pages h in
    let after = offset_after pages h offset in
    let answer = back_of h (host_layout pages) in
    ((n : ℕ) → 0 < n → (host_reading pages).refusal ≡ n → (number ≡ n) × (after ≡ offset))
    × ((host_reading pages).refusal ≡ 0
    → ((e : Refusal) → back_says (Err e) ≡ answer → (number ≡ number_of e) × (after ≡ offset))
    × ((b : ℕ) → back_says (Ok b) ≡ answer → (number ≡ 0) × (after ≡ b)))
c_back = calls.c_back

-- `moorsickle_cut` of the m bytes from offset a: the lent numbers then hold the pieces, and the count is theirs.
pub c_cut : (pages : List ℕ) (a m : ℕ) (room : List ℕ) (count : ℕ)
    → let number = cut_number pages a m room in
    let pieces = pieces_after pages a m room in
    let counted = count_after pages a m room count in
    let answer = cut_of a m (length room) (host_layout pages) in
    ((n : ℕ) → 0 < n → (host_reading pages).refusal ≡ n → (number ≡ n) × (pieces ≡ room) × (counted ≡ count))
    × ((host_reading pages).refusal ≡ 0
    → ((e : Refusal) → cut_says (Err e) ≡ answer → (number ≡ number_of e) × (pieces ≡ room) × (counted ≡ count))
    × ((k : ℕ) → cut_says (Ok k) ≡ answer
    → (number ≡ 0) × (pieces ≡ sets room 0 (all_numbers (cut_pieces a m (view (host_layout pages))))) × (counted ≡ k)))
c_cut = calls.c_cut

-- `moorsickle_page` of page k: the buffer then has the page in its first bytes, and `written` is the page's length.
pub c_page : (pages : List ℕ) (k : ℕ) (buffer : List ℕ) (written : ℕ)
    → let number = page_number pages k buffer in
    let after = buffer_after pages k buffer in
    let counted = written_after pages k buffer written in
    let page = written_page (host_layout pages) k in
    let answer = out_answer (out_refusal (host_layout pages) k (length buffer)) page in
    ((n : ℕ) → 0 < n → (host_reading pages).refusal ≡ n → (number ≡ n) × (after ≡ buffer) × (counted ≡ written))
    × ((host_reading pages).refusal ≡ 0
    → ((e : Refusal) → numbered (Err e) ≡ answer → (number ≡ number_of e) × (after ≡ buffer) × (counted ≡ written))
    × ((m : ℕ) → numbered (Ok m) ≡ answer → (number ≡ 0) × (after ≡ sets buffer 0 page) × (counted ≡ m)))
c_page = calls.c_page

-- `moorsickle_grow`, with the words of the free table, the bytes lent for the new pages and the two numbers of the
-- answer: 20 is asked last. Then the words have the next numbers of the table that growth gives, and are the words of
-- that table; the new pages are back to back in the first bytes; and the numbers are their length, and 1 if the offset
-- now has a home, else 0.
pub c_grow : (pages : List ℕ) (offset mark : ℕ) (table grown numbers : List ℕ)
    → let o = host_grown pages offset mark table in
    let number = grow_number pages offset mark table (length grown) in
    let words = table_after number table o in
    let bytes = grown_after number grown o in
    let told = answer_after number numbers o in
    let new = pages_of o.layout in
    ((n : ℕ) → 0 < n → (host_reading pages).refusal ≡ n
    → (number ≡ n) × (words ≡ table) × (bytes ≡ grown) × (told ≡ numbers))
    × ((host_reading pages).refusal ≡ 0
    → ((e : Refusal) → grow_says (Err e) ≡ o.answer
    → (number ≡ number_of e) × (words ≡ table) × (bytes ≡ grown) × (told ≡ numbers))
    × ((e : Effect) → grow_says (Ok e) ≡ o.answer
    → (length grown < length new → (number ≡ 20) × (words ≡ table) × (bytes ≡ grown) × (told ≡ numbers))
    × (length new ≤ length grown
    → (number ≡ 0) × (words ≡ with_next_words table o.table) × (word_table (with_next_words table o.table) ≡ o.table)
    × (bytes ≡ sets grown 0 new) × (told ≡ sets numbers 0 (length new ∷ cond e.home 1 0 ∷ [])))))
c_grow = calls.c_grow
