-- What the functions that read a run answer, in the words of Runs.
use Rattle.std.specs.Prelude.{ℕ, List, Result, Ok, Err}
use Rattle.std.specs.Borrow.{Bor}
use Rattle.refusals.specs.declared.Refusal.{Refusal}
use Rattle.refusals.specs.Refusals.{number_of}
use Rattle.collector.specs.declared.run.Reading as whole
use Rattle.collector.specs.declared.run.RefusedPage.{RefusedPage}
use Rattle.collector.specs.Runs.{Next, ended, broken, next, Reading, refused_at}

-- What cutting off the next page gives: the page and the bytes after it, or the number of the refusal; 1 if no byte is
-- left, since pages are outstanding, and 3 if no whole page is.
abbrev pub next_answer : Next → Result (List ℕ × List ℕ) ℕ
next_answer ended = Err 1
next_answer broken = Err 3
next_answer (next p rest) = Ok (p, rest)

-- The same of what the function gives.
abbrev pub cut_says : Result (Bor (List ℕ) × Bor (List ℕ)) Refusal → Result (List ℕ × List ℕ) ℕ
cut_says (Ok p) = Ok (p.0.now, p.1.now)
cut_says (Err e) = Err (number_of e)

-- What reading a run gives.
abbrev pub reading_says : Result whole.Reading RefusedPage → Reading
reading_says (Ok r) = record { refusal = 0; page = r.pages; layout = r.layout }
reading_says (Err r) = refused_at (number_of r.refusal) r.page
