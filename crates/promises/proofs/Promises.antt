-- The promises of the library, to be read first: the headline theorems of the three demands, each with document 01's
-- sentence in quotes, its whole statement, and as its proof the name of the law that shows it. The other promises are
-- in the files `PromisesOf..` beside this one; those of the entry points for C are in `PromisesForC`.
-- How to read it. A name is a definition (`abbrev`, `unfoldable`, `record` or `data`) of the file in its `use` line;
-- `abbrev` and `unfoldable` differ only in whether the prover opens the name by itself. A type under `specs.declared`
-- is a struct or an enum of the code, with its fields or cases. `(x : A) → B` is "B for every x", `×` "and", `↔`
-- "exactly if", `≡` "equals", `x.f` the field f of x; ℕ are the numbers from 0. l is a layout, c a collector, s the
-- bytes of a page (ps of several), b a file byte, h a home, o an object, p a byte of it, a and m offset and length of a
-- request, k a page's number, a number of pieces or a call of growth (ks several calls), n a refusal number, e a
-- refusal of the code (`code.Refusal`, whose number is `code_number e`) or what growth did, r an answer: `Ok` or `Err`.
-- How it is tied to the code. Each public call is in crates/moorsickle/src/lib.rt. None has a `requires`, and each is
-- proved to end. The contract says of its answer r what is said here: `lookup_says r ≡ lookup_of b l`, and so on; of
-- `take_page` `numbered r ≡ page_in c s .answer`, of `page_out` `numbered r ≡ out_answer ..`, where `numbered` has the
-- number in place of the refusal, of `layout_of` `layout_says r ≡ layout_out c`; and of lent memory that it is what is
-- named here.
use Rattle.std.specs.Prelude.{ℕ, ◌^◌, ◌<◌, ◌≡◌, Result, Ok, Err, List, ◌↔◌, true, false, length}
use Rattle.std.proofs.Math.Option.{some}
use Rattle.std.proofs.lemmas.List.Edits.{sets}
use Rattle.refusals.specs.declared.Refusal as code
use Rattle.refusals.specs.declared.Refusal.TheVariants.{NotValid}
use Rattle.refusals.specs.Refusals.{number_of as code_number}
use Rattle.refusals.specs.Numbered.{numbered}
use Rattle.layout.specs.declared.Object.{Object}
use Rattle.layout.specs.declared.Layout.{Layout}
use Rattle.layout.specs.Records.{view, no_layout}
use Rattle.layout.specs.Rules.{valid}
use Rattle.collector.specs.declared.Collector.{Collector}
use Rattle.collector.specs.Collector.{new_collector}
use Rattle.collector.specs.Taking.{number_of, page_in}
use Rattle.collector.specs.Giving.{layout_out}
use Rattle.paging.specs.Paging.{written_page, out_refusal, out_answer, out_number, out_buffer}
use Rattle.round_trip.specs.Pages.{read_pages, completed, written_pages, blanked, paged_by_rule, AllBytes, InMemory}
use Rattle.round_trip.specs.WriteThenRead as writing
use Rattle.round_trip.specs.ReadThenWrite as reading
use Rattle.mapping.specs.declared.ObjectHome.{ObjectHome}
use Rattle.mapping.specs.Homes.{Home, in_object, home_of, is_given}
use Rattle.mapping.specs.Lookup.{home_says, lookup_says, lookup_of}
use Rattle.mapping.specs.Back.{back_says, back_of}
use Rattle.mapping.specs.Cutting.{cut_pieces, all_numbers, cut_says, cut_of}
use Rattle.mapping.specs.CutFacts.{Cut}
use Rattle.growth_rules.specs.Steps.{Call}
use Rattle.growth_rules.specs.Growing.{grow_of}
use Rattle.growth_rules.specs.CallFacts.{Leaves, Changes}
use Rattle.growth_rules.specs.Moments.{moments, Demand3}
use Rattle.growth_rules.proofs.Demand3.{demand3}
use Rattle.growth.specs.declared.Effect.{Effect}
use Rattle.moorsickle.specs.Answers.{grow_says}
use Rattle.worked_table.specs.Asking.{replies}
use Rattle.worked_table.specs.Examples.{questions, answers, table_a_to_m}
use Rattle.promises.specs.Numbers.{Refusal, IsFirst, RefusedBy, refusal_at, NoneBefore}
use Rattle.promises.specs.Calls.{page_in_numbers, page_out_numbers, lookup_numbers, back_numbers, cut_numbers, cut_room}
use Rattle.promises.specs.Calls.{growth_numbers}
use Rattle.promises.proofs.NumberLaws as numbers
use Rattle.promises.proofs.CallLaws as calls
use Rattle.promises.specs.OutstandingLaws as outstanding

-- "Among its call's numbers each is given exactly if its condition holds and no lower one's does": that of none before
-- it in the order of the call's list in `Calls`, which in document 01 is the order of size.
pub number_exactly : (rs : List Refusal) (n : ℕ) → IsFirst n rs → (i : ℕ) → i < length rs
    → (n ≡ (refusal_at rs i).number) ↔ (((refusal_at rs i).applies ≡ true) × NoneBefore rs i)
number_exactly = numbers.given_exactly

-- "Page in: 1 to 8." "A page that is refused may be sent again": the collector stays as it was.
pub page_in_lem : (c : Collector) (s : List ℕ) → IsFirst (number_of (page_in c s).answer) (page_in_numbers c s)
    × (0 < number_of (page_in c s).answer → (page_in c s).collector ≡ c)
page_in_lem = calls.page_in_refused

-- "Page out: 1, 4, 20." "all lent memory keeps its bytes": under a refusal the buffer stays as it was.
pub page_out : (l : Layout) (k : ℕ) (buffer : List ℕ)
    → let n = out_refusal l k (length buffer) in
    IsFirst (out_number (out_answer n (written_page l k))) (page_out_numbers l k (length buffer))
    × (0 < n → out_buffer n (written_page l k) buffer ≡ buffer)
page_out = calls.page_out_refused

-- 1, "or a layout is not complete". "Only a complete collector gives a layout." Whatever a collector with pages
-- outstanding has gathered, every call that takes a layout refuses it by 1: it is never mapped, split or grown.
pub outstanding_refused : (c : Collector) → c.layout.complete ≡ false
    → ((b : ℕ) (r : Result ObjectHome code.Refusal) → lookup_says r ≡ lookup_of b c.layout → r ≡ Err NotValid)
    × ((h : Home) (r : Result ℕ code.Refusal) → back_says r ≡ back_of h c.layout → r ≡ Err NotValid)
    × ((a m room : ℕ) (r : Result ℕ code.Refusal) → cut_says r ≡ cut_of a m room c.layout → r ≡ Err NotValid)
    × ((k room : ℕ) (r : Result ℕ code.Refusal)
    → numbered r ≡ out_answer (out_refusal c.layout k room) (written_page c.layout k) → r ≡ Err NotValid)
    × ((k : Call) (r : Result Effect code.Refusal) → grow_says r ≡ (grow_of c.layout k).answer
    → (r ≡ Err NotValid) × Leaves c.layout k (grow_of c.layout k))
    × (layout_out c ≡ record { refusal = 1; layout = no_layout })
outstanding_refused = outstanding.refused

-- "Each lookup answers a home, or a refusal number (1, 10, 11)."
pub lookup : (l : Layout) (b : ℕ)
    → ((h : ObjectHome) → (lookup_says (Ok h) ≡ lookup_of b l)
    ↔ ((valid l ≡ true) × (home_of b (view l) ≡ some (home_says h))))
    × ((e : code.Refusal) → (lookup_says (Err e) ≡ lookup_of b l) ↔ RefusedBy (code_number e) (lookup_numbers l b))
lookup = calls.lookup_says_lem

-- "Back: 1, 13, 14." It gives b exactly if the home of b is byte p of the object o.
pub back : (l : Layout) (o : Object) (p : ℕ)
    → ((b : ℕ) → (back_says (Ok b) ≡ back_of (in_object o p) l)
    ↔ ((valid l ≡ true) × (b < 2 ^ 64) × (home_of b (view l) ≡ some (in_object o p))))
    × ((e : code.Refusal) → (back_says (Err e) ≡ back_of (in_object o p) l) ↔ RefusedBy (code_number e)
    (back_numbers l o p))
back = calls.back_says_lem

-- "Cutting: 1, 9 to 12." "Pieces stand in file order and together are the request": the fields of `Cut` say this, that
-- they are as many as the cut places inside plus one, and that each tells the homes of its bytes.
pub cut : (l : Layout) (a m : ℕ) (room : List ℕ)
    → ((k : ℕ) → cut_says (Ok k) ≡ cut_of a m (length room) l
    → Cut a m k (view l) (cut_pieces a m (view l))
    × (cut_room l a m room ≡ sets room 0 (all_numbers (cut_pieces a m (view l)))))
    × ((e : code.Refusal) → (cut_says (Err e) ≡ cut_of a m (length room) l)
    ↔ RefusedBy (code_number e) (cut_numbers l a m (length room)))
    × ((e : code.Refusal) → cut_says (Err e) ≡ cut_of a m (length room) l → cut_room l a m room ≡ room)
cut = calls.cut_says_lem

-- "Growth: 1, 10, 15 to 19." A call that is refused leaves the layout and the table as they were.
pub growth_refused : (l : Layout) (k : Call) (e : code.Refusal)
    → ((grow_says (Err e) ≡ (grow_of l k).answer) ↔ RefusedBy (code_number e) (growth_numbers l k))
    × (grow_says (Err e) ≡ (grow_of l k).answer → Leaves l k (grow_of l k))
growth_refused = calls.growth_refuses

-- "One call makes one step": nothing changes, since the offset has a home already, or the layout changes by that step,
-- with the objects chosen that `Changes` names. "The answer tells whether the offset now has a home".
pub growth_accepted : (l : Layout) (k : Call) (e : Effect) → grow_says (Ok e) ≡ (grow_of l k).answer
    → (e.home ≡ is_given (home_of k.offset (view (grow_of l k).layout)))
    × (e.changed ≡ false → (e.home ≡ true) × Leaves l k (grow_of l k))
    × (e.changed ≡ true → Changes l k (grow_of l k))
growth_accepted = calls.growth_accepts

-- "What the writer writes reads back to the same layout" (`blanked`: with the places blank that no count reaches).
pub written_given_back : (l : Layout) → valid l ≡ true → InMemory l
    → layout_out (read_pages new_collector (written_pages l)).collector ≡ record { refusal = 0; layout = blanked l }
written_given_back = writing.written_given_back

-- "rewriting a reading gives the same bytes where they were paged by the writer's rule"
pub read_written_again : (ps : List (List ℕ)) (c : Collector) → AllBytes ps → read_pages new_collector ps ≡ completed c
    → paged_by_rule ps ≡ true → written_pages (layout_out c).layout ≡ ps
read_written_again = reading.read_written_again

-- Demand 3, "a single claim about the whole list": the fields of `Demand3` say that homes stay, that no two bytes ever
-- share one, each looked at in any moment, and that the same bytes stay covered.
pub all_calls : (l : Layout) (ks : List Call) → valid l ≡ true → Demand3 l (moments l ks)
all_calls = demand3

-- "Examples a to m are one table under one statement."
pub examples : replies questions ≡ answers
examples = table_a_to_m
