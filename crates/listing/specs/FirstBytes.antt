-- The first bytes decide the listing. A reading looks at 17 pages at most, each of at most 512 bytes after a length of
-- two: it takes no more than 16, and refuses the next by what it is. After the last page the first byte shows whether
-- any follows. So a program that lists may leave all later bytes unread.
use Rattle.std.specs.Prelude.{ℕ, zero, suc, ◌+◌, ◌*◌, ◌-◌, ◌≤◌, ◌<◌, ◌≡◌, refl, List, [], ◌∷◌, cond, eqb, leb, length, take, drop}
use Rattle.std.proofs.Common.{sym, ap, ap₂, ◌∙◌, arith, take_all, take-add, take-take, drop_at, length-take-le, leb-true, leb-false}
use Rattle.lists.specs.Bools.{bool_cases}
use Rattle.bytes_le.specs.Numbers.{u16_at}
use Rattle.bytes_le.specs.NumberLaws.{u16_take}
use Rattle.collector.specs.declared.Collector.{Collector}
use Rattle.collector.specs.Collector.{new_collector}
use Rattle.collector.specs.Taking.{number_of, page_in}
use Rattle.collector.specs.Runs.{Reading, next, refused_at, closed, following, read_on, read_run, listed_cut}
use Rattle.collector.proofs.CutLaws.{listed_long, listed_next}
use Rattle.listing.specs.Listing.{reading_text, listing_of}

-- Whether any byte follows shows in the first.
closed_first : (c : Collector) (m : ℕ) (s : List ℕ) → 0 < m → closed c (take m s) ≡ closed c s
closed_first c zero s h = absurd (omega arith)
closed_first c (suc m) [] h = refl
closed_first c (suc m) (b ∷ s) h = refl

-- What follows k of the first k + j bytes is the first j of what follows k bytes.
rest_first : (k j : ℕ) (s : List ℕ) → k ≤ length s → drop k (take (k + j) s) ≡ take j (drop k s)
rest_first k j s h = rw (take-add k j s) (drop_at (take k s) (take j (drop k s)) k (length-take-le k s h))

-- A page that is first in many bytes: the first m of them have the same page first.
module _ (m : ℕ) (s : List ℕ) (h : 514 < m) (k : m < length s) where
  listed_first : u16_at s 0 ≤ 512
      → listed_cut (take m s) ≡ next (take (u16_at s 0) (drop 2 s)) (take (m - (2 + u16_at s 0)) (drop (2 + u16_at s 0) s))
  listed_first g =
      let t = take m s in
      let w = u16_at s 0 in
      let j = m - (2 + w) in
      let n : length t ≡ m = length-take-le m s (omega arith) in
      let u : u16_at t 0 ≡ w = u16_take m s 0 (omega arith) in
      let e : m ≡ 2 + (m - 2) = omega arith in
      let f : m ≡ (2 + w) + j = omega arith in
      let a : take w (drop 2 t) ≡ take w (drop 2 s) =
      ap (λ (i : ℕ). take w (drop 2 (take i s))) e ∙ ap (take w) (rest_first 2 (m - 2) s (omega arith))
      ∙ take-take w (m - 2) (drop 2 s) (omega arith) in
      let b : drop (2 + w) t ≡ take j (drop (2 + w) s) =
      ap (λ (i : ℕ). drop (2 + w) (take i s)) f ∙ rest_first (2 + w) j s (omega arith) in
      listed_next t (omega arith) (omega arith) (omega arith) (omega arith)
      ∙ ap (λ (v : ℕ). next (take v (drop 2 t)) (drop (2 + v) t)) u
      ∙ ap₂ next a b

  -- A length above 512 is in both.
  long_first : 512 < u16_at s 0 → listed_cut (take m s) ≡ listed_cut s
  long_first g =
      let n : length (take m s) ≡ m = length-take-le m s (omega arith) in
      let u : u16_at (take m s) 0 ≡ u16_at s 0 = u16_take m s 0 (omega arith) in
      listed_long (take m s) (omega arith) (omega arith) (omega arith)
      ∙ sym (listed_long s (omega arith) (omega arith) g)

-- If at most `left` pages are to come, more bytes than 514 for each decide the reading.
abbrev Decided : ℕ → Type 0
Decided left =
    (m : ℕ) (c : Collector) (s : List ℕ) → 514 * left < m
    → read_on listed_cut left c (take m s) ≡ read_on listed_cut left c s

-- One page more: it is cut alike from the first bytes, and what follows it is decided.
module _ (left : ℕ) (ih : Decided left) (m : ℕ) (c : Collector) (s : List ℕ) (h : 514 * suc left < m)
    (k : m < length s) where
  on_page : u16_at s 0 ≤ 512
      → following (read_on listed_cut left) c (listed_cut (take m s)) ≡ following (read_on listed_cut left) c (listed_cut s)
  on_page g =
      let w = u16_at s 0 in
      let p = take w (drop 2 s) in
      let n = number_of (page_in c p).answer in
      ap (following (read_on listed_cut left) c) (listed_first m s (omega arith) k g)
      ∙ ap (λ (r : Reading). cond (eqb n 0) r (refused_at n c.pages))
      (ih (m - (2 + w)) (page_in c p).collector (drop (2 + w) s) (omega arith))
      ∙ ap (following (read_on listed_cut left) c) (sym (listed_next s (omega arith) (omega arith) g (omega arith)))

  on_bytes :
      following (read_on listed_cut left) c (listed_cut (take m s)) ≡ following (read_on listed_cut left) c (listed_cut s)
  on_bytes = bool_cases (leb (u16_at s 0) 512)
      (λ e. on_page (leb-true (u16_at s 0) 512 e))
      (λ e. ap (following (read_on listed_cut left) c) (long_first m s (omega arith) k (leb-false (u16_at s 0) 512 e)))

-- So they do for any number of pages to come.
on_first : (left : ℕ) → Decided left
on_first zero m c s h = refl
on_first (suc left) m c s h = bool_cases (leb (length s) m)
    (λ e. ap (read_on listed_cut (suc left) c) (take_all m s (leb-true (length s) m e)))
    (λ e. let k : m < length s = leb-false (length s) m e in
    ap₂ (λ (a b : Reading). cond c.layout.complete a b) (closed_first c m s (omega arith))
    (on_bytes left (on_first left) m c s h k))

-- The listing of any bytes is that of their first m, if m is above 17 * 514.
pub listing_first : (m : ℕ) (s : List ℕ) → 8738 < m → listing_of (take m s) ≡ listing_of s
unfolding listing_of read_run
listing_first m s h = ap reading_text (on_first 17 m new_collector s h)
