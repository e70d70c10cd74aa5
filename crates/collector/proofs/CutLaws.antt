-- How the next page is cut from the bytes after a position.
use Rattle.std.specs.Prelude.{ℕ, ◌+◌, ◌≤◌, ◌<◌, min, ◌≡◌, List, Bool, true, false, ◌&&◌, eqb, leb, length, take, drop}
use Rattle.std.proofs.Common.{sym, ap, ap₂, ◌∙◌, arith, add-zero, length-drop, drop-drop}
use borrow.Author.Tests.{eq-eqb, ne_eqb, le-leb, lt-leb, leb-true, leb-false}
use Rattle.lists.specs.Bools.{bool_cases}
use Rattle.bytes_le.specs.Numbers.{u16_at}
use Rattle.bytes_le.specs.NumberLaws.{u16_drop}
use Rattle.page.specs.Form.{page_form, counted, page_end, form_by}
use Rattle.page.specs.Content.{head_of, components_of}
use Rattle.page.specs.FormLaws.{end_past}
use Rattle.page.specs.FirstPageLaws.{first_cut, first_page_lem, first_content}
use Rattle.collector.specs.declared.Collector.{Collector}
use Rattle.collector.specs.Taking.{number_of, open_refusal, settled, content_in, open_in}
use Rattle.collector.specs.TakingLaws.{settled_number, refused_3, refused_content}
use Rattle.collector.proofs.RunLaws.{Held, read_from, read_broken, read_refused}
use Rattle.collector.specs.Runs.{ended, broken, next, refused_at, listed_cut, host_cut}

-- No bytes are left.
module _ (s : List ℕ) (none : length s ≡ 0) where
  pub listed_ended : listed_cut s ≡ ended
  unfolding listed_cut
  listed_ended = rw (eq-eqb (length s) 0 none)

  pub host_ended : host_cut s ≡ ended
  unfolding host_cut
  host_ended = rw (eq-eqb (length s) 0 none)

-- Some bytes are left.
module _ (s : List ℕ) (some : 0 < length s) where
  more : eqb (length s) 0 ≡ false
  more = ne_eqb (length s) 0 (λ e. omega arith)

  -- A length that is cut.
  pub listed_cut_lem : length s < 2 → listed_cut s ≡ broken
  unfolding listed_cut
  listed_cut_lem h = rw (more, lt-leb 2 (length s) h)

  module _ (h : 2 ≤ length s) where
    -- A length above 512.
    pub listed_long : 512 < u16_at s 0 → listed_cut s ≡ broken
    unfolding listed_cut
    listed_long k = rw (more, le-leb 2 (length s) h, lt-leb (u16_at s 0) 512 k)

    module _ (k : u16_at s 0 ≤ 512) where
      -- A page that is cut.
      pub listed_short : length s < 2 + u16_at s 0 → listed_cut s ≡ broken
      unfolding listed_cut
      listed_short l = rw (more, le-leb 2 (length s) h, le-leb (u16_at s 0) 512 k, lt-leb (2 + u16_at s 0) (length s) l)

      -- A whole page.
      pub listed_next : 2 + u16_at s 0 ≤ length s
          → listed_cut s ≡ next (take (u16_at s 0) (drop 2 s)) (drop (2 + u16_at s 0) s)
      unfolding listed_cut
      listed_next l = rw (more, le-leb 2 (length s) h, le-leb (u16_at s 0) 512 k, le-leb (2 + u16_at s 0) (length s) l)

  -- The page that they begin with is whole.
  pub host_next : page_end s ≤ length s → host_cut s ≡ next (take (page_end s) s) (drop (page_end s) s)
  unfolding host_cut
  host_next h = rw (more, le-leb (page_end s) (length s) h)

  -- The page that they begin with is cut.
  pub host_cut_lem : length s < page_end s → host_cut s ≡ broken
  unfolding host_cut
  host_cut_lem h = rw (more, lt-leb (page_end s) (length s) h)

-- The length before a page, at a position.
pub length_at : (s : List ℕ) (at : ℕ) → u16_at (drop at s) 0 ≡ u16_at s at
length_at s at = u16_drop at s 0 ∙ ap (u16_at s) (add-zero at)

-- The page of n bytes after the length at a position, and the rest after the page.
pub listed_next_at : (s : List ℕ) (at n : ℕ) → n ≡ u16_at s at → at + 2 ≤ length s → n ≤ 512 → at + 2 + n ≤ length s
    → listed_cut (drop at s) ≡ next (take n (drop (at + 2) s)) (drop (at + 2 + n) s)
listed_next_at s at n e h k l =
    let len = length-drop at s in
    let m : u16_at (drop at s) 0 ≡ n = length_at s at ∙ sym e in
    let sum : at + (2 + n) ≡ at + 2 + n = omega arith in
    listed_next (drop at s) (omega arith) (omega arith) (omega arith) (omega arith)
    ∙ rw (m, drop-drop 2 at s, drop-drop (2 + n) at s, sum)

-- The host's next page, if some bytes are left.
module _ (s : List ℕ) (some : 0 < length s) where
  -- If the bytes do not begin with a page of good form, the reading ends with 3.
  pub host_fault : (c : Collector) → Held c → c.layout.complete ≡ false → form_by (min 512 (length s)) s ≡ false
      → read_from host_cut c s ≡ refused_at 3 c.pages
  host_fault c h e f =
      let whole = leb (page_end s) (length s) in
      let t = take (page_end s) s in
      bool_cases whole
      (λ w. let g : page_form t ≡ false = sym (ap (λ (b : Bool). b && page_form t) w) ∙ sym (first_page_lem s) ∙ f in
      let n : number_of (open_in c t).answer ≡ 3 =
      settled_number (open_refusal c t) c (head_of t) (components_of t) ∙ refused_3 c t e g in
      let k : page_end s ≤ length s = leb-true (page_end s) (length s) w in
      read_refused c h host_cut s e t (drop (page_end s) s) (host_next s some k) 3 n (omega arith))
      (λ w. read_broken c h host_cut s e (host_cut_lem s some (leb-false (page_end s) (length s) w)))

  -- If they do, the page is cut off at its end, and taking it is taking what it says.
  module _ (f : form_by (min 512 (length s)) s ≡ true) where
    pub host_page : host_cut s ≡ next (take (page_end s) s) (drop (page_end s) s)
    host_page = host_next s some (first_cut s f).0

    pub host_content : (c : Collector) → c.layout.complete ≡ false
        → open_in c (take (page_end s) s) ≡ content_in c (head_of s) (components_of s)
    host_content c e =
        let t = take (page_end s) s in
        let q = first_content s f in
        ap (λ (n : ℕ). settled n c (head_of t) (components_of t)) (refused_content c t e (first_cut s f).1)
        ∙ ap₂ (content_in c) q.0 q.1

-- A page of good form is not empty, and ends by the end of the bytes.
pub host_ends : (s : List ℕ) → form_by (min 512 (length s)) s ≡ true → (0 < page_end s) × (page_end s ≤ length s)
host_ends s f = (omega (arith, end_past (counted s) s 16), (first_cut s f).0)
