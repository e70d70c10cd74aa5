-- What is returned, and what is in a lent place, by the answer of a call: what it gives is stored there, or it refuses and
-- what was there stays.
use Rattle.std.specs.Prelude.{ℕ, zero, suc, ◌≡◌, refl, List, length, Ok, Err}
use Rattle.std.proofs.Common.{ap}
use Rattle.mapping.specs.Answers.{gives, refuses, answer, answer_number}
use Rattle.mapping.specs.AnswerLaws.{gives_or_refuses}
use Rattle.paging.specs.Paging.{out_answer}
use Rattle.gateway.specs.Host.{lent_after}

-- The answer under a number that gives b: the number is 0, and b is stored, as `put` writes it.
pub given_stored : {A B : Type 0} (put : A → B) (lent : B) (n : ℕ) (a b : A) → gives b ≡ answer n a
    → (0 ≡ n) × (put b ≡ lent_after n (put a) lent)
unfolding lent_after
given_stored put lent zero a b e = let same : b ≡ a = cc in (refl, ap put same)
given_stored put lent (suc n) a b e = absurd (gives_or_refuses b (suc n) e)

-- The answer under a number that refuses: it is that number, and the lent place stays.
pub refused_kept : {A B : Type 0} (put : A → B) (lent : B) (n : ℕ) (a : A) (m : ℕ) → refuses m ≡ answer n a
    → (m ≡ n) × (lent ≡ lent_after n (put a) lent)
unfolding lent_after
refused_kept put lent zero a m e = cc
refused_kept put lent (suc n) a m e = (ap answer_number e, refl)

-- The same of the answer of a call that writes a page.
pub page_stored : (lent n : ℕ) (page : List ℕ) (bytes : ℕ) → Ok bytes ≡ out_answer n page
    → (0 ≡ n) × (bytes ≡ lent_after n (length page) lent)
unfolding out_answer lent_after
page_stored lent zero page bytes e = (refl, cc)
page_stored lent (suc n) page bytes e = cc

pub page_kept : (lent n : ℕ) (page : List ℕ) (m : ℕ) → Err m ≡ out_answer n page
    → (m ≡ n) × (lent ≡ lent_after n (length page) lent)
unfolding out_answer lent_after
page_kept lent zero page m e = cc
page_kept lent (suc n) page m e = (cc, refl)
