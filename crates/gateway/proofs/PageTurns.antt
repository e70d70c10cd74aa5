-- Laws of the pages of a layout, one after the other, by how many bytes each has: none if there is no such page.
use Rattle.std.specs.Prelude.{ℕ, suc, ◌+◌, ◌-◌, ◌≤◌, ◌<◌, ◌≡◌, List, [], ◌++◌, cond, Result, Ok, Err}
use Rattle.std.proofs.Common.{arith, add-one}
use Rattle.std.proofs.Math.ListN.{length}
use Rattle.std.proofs.lemmas.List.Edits.{sets}
use borrow.Author.Tests.{le-leb}
use Rattle.lists.specs.Bools.{bool_cases}
use Rattle.layout.specs.declared.Layout.{Layout}
use Rattle.layout.specs.Records.{view}
use Rattle.paging.specs.Paging.{is_some, from_page, written_page, write_refusal, out_answer, out_buffer}
use Rattle.paging.specs.PagingLaws.{length_written, written_le}
use Rattle.gateway.specs.LentWords.{pages_from}

-- How many bytes were written, by the answer of a call that writes a page.
abbrev pub written_length : Result ℕ ℕ → ℕ
written_length (Ok n) = n
written_length (Err n) = 0

-- Page k of a layout, or no bytes if it has no such page.
unfoldable pub page_if : Layout → ℕ → List ℕ
page_if l k = cond (is_some (from_page k (view l))) (written_page l k) []

module _ (l : Layout) (k : ℕ) where
  -- A page has at most 512 bytes.
  pub page_if_le : length (page_if l k) ≤ 512
  unfolding page_if
  page_if_le =
      bool_cases (is_some (from_page k (view l))) (λ e. rw e (written_le l k)) (λ e. rw e (omega arith))

  -- The turns that are left before page 16.
  turns : k < 16 → 16 - k ≡ suc (16 - suc k)
  turns h = omega arith

  -- If page k has no bytes, there is no such page, and none after it;
  pub pages_none : k < 16 → length (page_if l k) ≡ 0 → pages_from l k ≡ []
  unfolding page_if pages_from
  pages_none h z =
      bool_cases (is_some (from_page k (view l)))
      (λ e. let y : length (written_page l k) ≡ 0 = rw e at z in absurd (omega (arith, length_written l k)))
      (λ e. rw (turns h, e))

  -- if it has some, it is followed by those from page k + 1 on.
  pub pages_next : k < 16 → 0 < length (page_if l k) → pages_from l k ≡ page_if l k ++ pages_from l (k + 1)
  unfolding page_if pages_from
  pages_next h z =
      bool_cases (is_some (from_page k (view l)))
      (λ e. rw (turns h, e, add-one k))
      (λ e. let y : 0 < 0 = rw e at z in absurd (omega arith))

  -- A call that writes page k into so many bytes that there is room for it answers with its length, 0 if there is none,
  module _ (room : ℕ) (h : length (page_if l k) ≤ room) where
    pub page_answer : written_length (out_answer (write_refusal l k room) (written_page l k)) ≡ length (page_if l k)
    unfolding page_if write_refusal out_answer
    page_answer =
        bool_cases (is_some (from_page k (view l)))
        (λ e. rw (e, le-leb (length (written_page l k)) room (rw e at h)))
        (λ e. rw e)

    -- and the page is in the first bytes.
    pub page_buffer : (buffer : List ℕ)
        → out_buffer (write_refusal l k room) (written_page l k) buffer ≡ sets buffer 0 (page_if l k)
    unfolding page_if write_refusal out_buffer
    page_buffer buffer =
        bool_cases (is_some (from_page k (view l)))
        (λ e. rw (e, le-leb (length (written_page l k)) room (rw e at h)))
        (λ e. rw e)
