-- A row with the keys of the first n object records of a list: which of them a record is asked of.
use Rattle.std.specs.Prelude.{ℕ, ◌≤◌, ◌<◌, ◌≡◌, List, false, cond, eqb, length, get_or, take}
use Rattle.std.proofs.Common.{sym, ap, ◌∙◌, arith, take-take, get_or-take}
use Rattle.std.proofs.Math.ListN.{get_or-map}
use Rattle.std.proofs.Math.Seq.{slice}
use Rattle.lists.specs.Bools.{bool_cases, clash}
use Rattle.lists.specs.Counting.{elem}
use Rattle.lists.specs.Slices.{slice_done, take_map}
use Rattle.layout.specs.declared.Object.{Object}
use Rattle.layout.specs.Records.{no_object}
use Rattle.layout.specs.Rows.{key_of, keys_of}
use Rattle.layout.specs.Distinct.{same_object}
use Rattle.layout.specs.KeyLaws.{key_alike}

-- The key at a place.
get_d_keys : (os : List Object) (i : ℕ) → get_or (keys_of os) i 0 ≡ key_of (get_or os i no_object)
unfolding key_of
get_d_keys os i = get_or-map key_of os i no_object

-- A list of at least n object records, and a row with the keys of the first n. If the record at place i is asked of those from
-- `start` on, it is asked of all before it.
module _ (os : List Object) (keys : List ℕ) (n i : ℕ) (h : i < n) (k : n ≤ length os) (e : take n keys ≡ keys_of (take n os)) where
  keys_first : take i keys ≡ keys_of (take i os)
  keys_first =
      sym (take-take i n keys (omega arith)) ∙ ap (take i) e ∙ sym (take_map key_of i (take n os))
      ∙ ap keys_of (take-take i n os (omega arith))

  key_at : get_or keys i 0 ≡ key_of (get_or os i no_object)
  key_at =
      sym (get_or-take n keys i 0 h) ∙ ap (λ (l : List ℕ). get_or l i 0) e
      ∙ get_d_keys (take n os) i
      ∙ ap key_of (get_or-take n os i no_object h)

  pub row_known : (o : Object) → get_or os i no_object ≡ o → (start : ℕ)
      → start ≡ cond (elem eqb (get_or keys i 0) (take i keys)) 0 i
      → (start ≤ i) × (elem same_object o (take i os) ≡ elem same_object o (slice start i os))
  row_known o is start s =
      bool_cases (elem eqb (get_or keys i 0) (take i keys))
      (λ a. let z : start ≡ 0 = s ∙ rw a in (omega arith, rw z))
      (λ a. let z : start ≡ i = s ∙ rw a in
      let none : elem same_object o (take i os) ≡ false =
      bool_cases (elem same_object o (take i os))
      (λ b. clash (key_alike o (take i os) b) (rw (key_at, keys_first, is) at a))
      (λ b. b) in
      (omega arith, none ∙ rw (z, slice_done os i i (omega arith))))
