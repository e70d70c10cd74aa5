-- The keys of object records: if they differ, the records do.
use Rattle.std.specs.Prelude.{ℕ, ◌≤◌, ◌<◌, ◌≡◌, List, [], ◌∷◌, true, false, cond, eqb, length, get_or, take}
use Rattle.std.proofs.Common.{sym, ap, ◌∙◌, arith, length-take-le, eq-eqb}
use Rattle.std.proofs.lemmas.List.{length-map}
use Rattle.std.proofs.lemmas.Bool.{false≢true}
use Rattle.std.proofs.Math.ListN.{get_or-map}
use Rattle.std.proofs.Math.Seq.{slice}
use Rattle.lists.specs.Bools.{bool_cases, clash}
use Rattle.lists.specs.Counting.{elem}
use Rattle.lists.specs.Slices.{slice_done, take_map}
use Rattle.layout.specs.declared.Object.{Object}
use Rattle.layout.specs.Records.{no_object}
use Rattle.layout.specs.Rows.{key_of, keys_of}
use Rattle.layout.specs.Distinct.{same_object}
use Rattle.layout.specs.FactLaws.{same_object_lem}

-- The key of an object record that is in a list is among the keys of the list.
pub key_alike : (o : Object) (os : List Object) → elem same_object o os ≡ true → elem eqb (key_of o) (keys_of os) ≡ true
key_alike o [] e = absurd (false≢true e)
key_alike o (p ∷ os) e =
    bool_cases (same_object o p)
    (λ s. rw (eq-eqb (key_of o) (key_of p) (ap key_of (same_object_lem o p s))))
    (λ s. bool_cases (eqb (key_of o) (key_of p))
    (λ l. rw l)
    (λ l. rw l (key_alike o os (rw s at e))))

-- The key at a place.
get_d_keys : (os : List Object) (i : ℕ) → get_or (keys_of os) i 0 ≡ key_of (get_or os i no_object)
unfolding key_of
get_d_keys os i = get_or-map key_of os i no_object

-- If the record at place i is asked of those from `start` on, it is asked of all before it.
module _ (os : List Object) (keys : List ℕ) (i : ℕ) (h : i < length os) (e : keys ≡ keys_of os) where
  keys_first : take i keys ≡ keys_of (take i os)
  keys_first = rw e (sym (take_map key_of i os))

  key_at : get_or keys i 0 ≡ key_of (get_or os i no_object)
  key_at = rw e (get_d_keys os i)

  pub row_known : (o : Object) → get_or os i no_object ≡ o → (start : ℕ)
      → start ≡ cond (elem eqb (get_or keys i 0) (take i keys)) 0 (length (take i keys))
      → (start ≤ i) × (elem same_object o (take i os) ≡ elem same_object o (slice start i os))
  row_known o is start s =
      let n : length (take i keys) ≡ i = rw (e, length-take-le i (keys_of os) (omega (arith, length-map os key_of))) in
      bool_cases (elem eqb (get_or keys i 0) (take i keys))
      (λ a. let z : start ≡ 0 = s ∙ rw a in (omega arith, rw z))
      (λ a. let z : start ≡ i = s ∙ rw (a, n) in
      let none : elem same_object o (take i os) ≡ false =
      bool_cases (elem same_object o (take i os))
      (λ b. clash (key_alike o (take i os) b) (rw (key_at, keys_first, is) at a))
      (λ b. b) in
      (omega arith, none ∙ rw (z, slice_done os i i (omega arith))))
