-- What is returned, and what is in a lent place, once the answer of a call was stored there.
use Prim.Native.Nat.{ℕ, zero, suc}
use Rattle.std.specs.Prelude.{◌≡◌, refl, List, length, Result, Ok, Err}
use Rattle.std.proofs.Common.{sym, ap, ◌∙◌}
use Rattle.mapping.specs.Answers.{Answer, gives, refuses, answer, answer_number}
use Rattle.paging.specs.Paging.{out_answer}
use Rattle.gateway.specs.Host.{lent_after}

-- What is in the lent place once an answer was stored: what the answer gives, as `put` writes it, or what was there.
unfoldable pub stored_in : {A B : Type 0} → (A → B) → Answer A → B → B
stored_in put (gives a) lent = put a
stored_in put (refuses n) lent = lent

-- What the answer of a call that writes a page says, case by case: how many bytes were written, or the number.
unfoldable pub written_says : Result ℕ ℕ → Answer ℕ
written_says (Ok bytes) = gives bytes
written_says (Err n) = refuses n

module _ {A B : Type 0} (put : A → B) (lent : B) where
  -- Both of an answer that is known to be y.
  pub stored_case : {x y : Answer A} → x ≡ y → (answer_number y ≡ answer_number x)
      × (stored_in put y lent ≡ stored_in put x lent)
  stored_case e = (sym (ap answer_number e), sym (ap (λ (z : Answer A). stored_in put z lent) e))

  -- The answer under a number: that is the number, and the lent place is as it is after a call of that number.
  pub stored_as : (n : ℕ) (a : A) (x : Answer A) (r : ℕ) (after : B)
      → (r ≡ answer_number x) × (after ≡ stored_in put x lent) → x ≡ answer n a → (r ≡ n)
      × (after ≡ lent_after n (put a) lent)
  unfolding stored_in lent_after
  stored_as zero a x r after s e = (s.0 ∙ rw e, s.1 ∙ rw e)
  stored_as (suc n) a x r after s e = (s.0 ∙ rw e, s.1 ∙ rw e)

-- What the answer under a number says of a page.
pub written_says_lem : (n : ℕ) (page : List ℕ) → written_says (out_answer n page) ≡ answer n (length page)
unfolding written_says out_answer
written_says_lem zero page = refl
written_says_lem (suc n) page = refl
