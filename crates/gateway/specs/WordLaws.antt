-- Laws of a table that is lent as words: how it is loaded and written back record by record, and what the loaded table says.
use Rattle.std.specs.Prelude.{ℕ, zero, suc, ◌+◌, ◌-◌, ◌*◌, ◌%◌, ◌≤◌, ◌<◌, min, ◌≡◌, refl, List, [], ◌∷◌, map, Bool, true, false, ◌&&◌, leb, get_or, take, drop, set}
use Rattle.std.proofs.Math.Path.{ap}
use Rattle.std.proofs.Common.{arith, add-zero, add-one, length-take, length-drop, drop_of_length-le, drop-drop, get_or-drop, take_all, le-leb, leb-true, leb-false}
use Rattle.std.proofs.Math.ListN.{length}
use Rattle.std.proofs.lemmas.List.{length-map}
use Rattle.std.proofs.Math.Seq.{take-nil}
use Rattle.std.proofs.lemmas.Bool.{lt-leb}
use Rattle.lists.specs.Bools.{bool_cases}
use Rattle.free_table.specs.declared.TargetRecord.{TargetRecord}
use Rattle.free_table.specs.Table.{no_record, rising, table_ok}
use Rattle.free_table.specs.Choosing.{raised, raised_first}
use Rattle.free_table.proofs.TableLaws.{first_rises}
use Rattle.free_table.proofs.ChoosingLaws.{table_facts}
use Rattle.gateway.specs.HostGrowth.{cut_record, word_table, with_next_words}
use Rattle.gateway.specs.LentWords.{held_record, record_at, first_held}

-- Words are the first record and the records of the words after it.
first_record : (ws : List ℕ) → 0 < length ws → word_table ws ≡ record_at ws 0 ∷ word_table (drop 3 ws)
unfolding record_at
first_record [] h = absurd (omega arith)
first_record (t ∷ []) h = refl
first_record (t ∷ f ∷ []) h = refl
first_record (t ∷ f ∷ n ∷ ws) h = rw (le-leb 3 (suc (suc (suc (length ws)))) (omega arith))

-- The record that begins the words from a place on is the one that begins at that place.
record_drop : (ws : List ℕ) (p : ℕ) → p ≤ length ws → record_at (drop p ws) 0 ≡ record_at ws p
unfolding record_at
record_drop ws p h =
    bool_cases (leb (p + 3) (length ws))
    (λ e. let k : p + 3 ≤ length ws = leb-true (p + 3) (length ws) e in
    rw (
      e,
      le-leb 3 (length (drop p ws)) (omega (arith, length-drop p ws)),
      get_or-drop p ws 0 0,
      get_or-drop p ws 1 0,
      get_or-drop p ws 2 0,
      add-zero p,
    ))
    (λ e. let k : length ws < p + 3 = leb-false (p + 3) (length ws) e in
    rw (e, lt-leb 3 (length (drop p ws)) (omega (arith, length-drop p ws))))

-- The same of the words from a place up to the end.
pub record_part : (ws : List ℕ) (p : ℕ) → p ≤ length ws → record_at (take (length ws - p) (drop p ws)) 0 ≡ record_at ws p
record_part ws p h = rw (take_all (length ws - p) (drop p ws) (omega (arith, length-drop p ws))) (record_drop ws p h)

-- So the records from a place on are the one that begins there and those after it, as far as there is a place for them.
pub held_next : (ws : List ℕ) (i : ℕ) → i < 65 → 3 * i < length ws
    → first_held (65 - i) (drop (3 * i) ws)
    ≡ held_record (record_at ws (3 * i)) ∷ first_held (65 - (i + 1)) (drop (3 * (i + 1)) ws)
held_next ws i h k =
    let n : 65 - i ≡ suc (65 - (i + 1)) = omega arith in
    let p : 3 * i + 3 ≡ 3 * (i + 1) = omega arith in
    rw (
      n,
      first_record (drop (3 * i) ws) (omega (arith, length-drop (3 * i) ws)),
      record_drop ws (3 * i) (omega arith),
      drop-drop 3 (3 * i) ws,
      p,
    )

-- After the last word there is no record,
pub held_none : (ws : List ℕ) (i : ℕ) → length ws ≤ 3 * i → first_held (65 - i) (drop (3 * i) ws) ≡ []
held_none ws i h = rw (drop_of_length-le ws {i = 3 * i} h) (take-nil (65 - i))

-- nor is there a place for one after 65.
pub held_full : (ws : List ℕ) (i : ℕ) → 65 ≤ i → first_held (65 - i) (drop (3 * i) ws) ≡ []
held_full ws i h = let n : 65 - i ≡ 0 = omega arith in rw n

-- A test that is followed by one that fails.
and_false : (a : Bool) → (a && false) ≡ false
and_false true = refl
and_false false = refl

-- Targets rise exactly if they do as a table in memory has them,
held_rises : (from : ℕ) (rs : List TargetRecord) → rising from (map held_record rs) ≡ rising from rs
held_rises from [] = refl
held_rises from (r ∷ rs) =
    let t = r.target in
    bool_cases (leb t 65534)
    (λ e. let m : min 65535 t ≡ t = omega (arith, leb-true t 65534 e) in
    rw (m, held_rises (t + 1) rs))
    (λ e. let m : leb (min 65535 t) 65534 ≡ false = lt-leb (min 65535 t) 65534 (omega (arith, leb-false t 65534 e)) in
    rw (e, m, and_false (leb from t), and_false (leb from (min 65535 t))))

-- and if they rise, the records there are the same.
held_same : (from : ℕ) (rs : List TargetRecord) → rising from rs ≡ true → map held_record rs ≡ rs
held_same from [] e = refl
held_same from (r ∷ rs) e =
    let p = first_rises from r rs e in
    let m : min 65535 r.target ≡ r.target = omega arith in
    rw (m, held_same (r.target + 1) rs p.2)

-- The records that were loaded are a good table exactly if those of the words are.
pub held_ok : (ws : List ℕ) → table_ok (first_held 65 ws) ≡ table_ok (word_table ws)
unfolding table_ok
held_ok ws =
    let rs = word_table ws in
    let held = map held_record rs in
    let n : length held ≡ length rs = length-map rs held_record in
    bool_cases (leb (length rs) 64)
    (λ e. rw (take_all 65 held (omega (arith, leb-true (length rs) 64 e)), n, held_rises 0 rs))
    (λ e. let long : leb (length (take 65 held)) 64 ≡ false =
    lt-leb (length (take 65 held)) 64 (omega (arith, length-take 65 held, leb-false (length rs) 64 e)) in
    rw (e, long))

-- The records of a good table are loaded as they are,
pub held_good : (ws : List ℕ) → table_ok (word_table ws) ≡ true → first_held 65 ws ≡ word_table ws
held_good ws e =
    let f = table_facts (word_table ws) e in
    rw (held_same 0 (word_table ws) f.1) (take_all 65 (word_table ws) (omega arith))

-- each of its records has three words,
three_words : (from : ℕ) (ws : List ℕ) → rising from (word_table ws) ≡ true → 3 * length (word_table ws) ≡ length ws
three_words from [] e = refl
three_words from (t ∷ []) e = absurd (omega (arith, (first_rises from cut_record [] e).1))
three_words from (t ∷ f ∷ []) e = absurd (omega (arith, (first_rises from cut_record [] e).1))
three_words from (t ∷ f ∷ n ∷ ws) e =
    let r : TargetRecord = record { target = t; free = f; next = n } in
    omega (arith, three_words (t + 1) ws (first_rises from r (word_table ws) e).2)

-- and they are at most 64.
pub good_words : (ws : List ℕ) → table_ok (word_table ws) ≡ true
    → (length (word_table ws) ≤ 64) × (3 * length (word_table ws) ≡ length ws)
good_words ws e = let f = table_facts (word_table ws) e in (f.0, three_words 0 ws f.1)

-- Words whose number is no multiple of 3 make a bad table.
pub uneven_bad : (ws : List ℕ) → (length ws % 3 ≡ 0 → ⊥) → table_ok (word_table ws) ≡ false
uneven_bad ws h =
    bool_cases (table_ok (word_table ws))
    (λ e. let k : 3 * length (word_table ws) ≡ length ws = (good_words ws e).1 in absurd (h (omega arith)))
    (λ e. e)

-- Words with their own next numbers stay as they are.
pub own_words : (ws : List ℕ) → with_next_words ws (word_table ws) ≡ ws
own_words [] = refl
own_words (t ∷ []) = refl
own_words (t ∷ f ∷ []) = refl
own_words (t ∷ f ∷ n ∷ ws) = ap (λ (l : List ℕ). t ∷ f ∷ n ∷ l) (own_words ws)

-- Words with the next numbers of the table after a choice are the words of that table.
pub raised_words : (ok : TargetRecord → Bool) (s : ℕ) (ws : List ℕ) → 3 * length (word_table ws) ≡ length ws
    → word_table (with_next_words ws (raised_first ok s (word_table ws))) ≡ raised_first ok s (word_table ws)
raised_words ok s [] e = refl
raised_words ok s (t ∷ []) e = absurd (omega arith)
raised_words ok s (t ∷ f ∷ []) e = absurd (omega arith)
raised_words ok zero (t ∷ f ∷ n ∷ ws) e = ap word_table (own_words (t ∷ f ∷ n ∷ ws))
raised_words ok (suc s) (t ∷ f ∷ n ∷ ws) e =
    let r : TargetRecord = record { target = t; free = f; next = n } in
    bool_cases (ok r)
    (λ q. rw q (ap (λ (l : List TargetRecord). raised r ∷ l) (raised_words ok s ws (omega arith))))
    (λ q. rw q (ap (λ (l : List TargetRecord). r ∷ l) (raised_words ok (suc s) ws (omega arith))))

-- Writing back record by record: one next number more.
next_word : (ws : List ℕ) (rs : List TargetRecord) (i : ℕ) → i < length rs → 3 * i + 2 < length ws
    → set (with_next_words ws (take i rs)) (3 * i + 2) (get_or rs i no_record).next ≡ with_next_words ws (take (suc i) rs)
next_word ws [] i h k = absurd (omega arith)
next_word [] (r ∷ rs) i h k = absurd (omega arith)
next_word (t ∷ []) (r ∷ rs) i h k = absurd (omega arith)
next_word (t ∷ f ∷ []) (r ∷ rs) i h k = absurd (omega arith)
next_word (t ∷ f ∷ n ∷ ws) (r ∷ rs) zero h k = refl
next_word (t ∷ f ∷ n ∷ ws) (r ∷ rs) (suc i) h k =
    let p : 3 * suc i + 2 ≡ suc (suc (suc (3 * i + 2))) = omega arith in
    rw p (ap (λ (l : List ℕ). t ∷ f ∷ r.next ∷ l) (next_word ws rs i (omega arith) (omega arith)))

pub words_next : (ws : List ℕ) (rs : List TargetRecord) (i : ℕ) → i < length rs → 3 * i + 2 < length ws
    → set (with_next_words ws (take i rs)) (3 * i + 2) (get_or rs i no_record).next ≡ with_next_words ws (take (i + 1) rs)
words_next ws rs i h k = rw (add-one i) (next_word ws rs i h k)
