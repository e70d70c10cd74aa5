-- The table that is loaded from words, in 65 places with a count.
use Rattle.std.specs.Prelude.{ℕ, ◌≡◌, List, map, true, replicate}
use Rattle.std.proofs.Common.{ap, ◌∙◌, arith, length-take}
use Rattle.std.proofs.Math.ListN.{length}
use Rattle.std.proofs.lemmas.List.{length-replicate}
use Rattle.std.proofs.lemmas.List.Edits.{sets}
use Rattle.std.proofs.Math.Seq.{length-sets}
use Rattle.lists.specs.Slices.{take_sets}
use Rattle.free_table.specs.Table.{Table, no_record, table_of, table_ok}
use Rattle.gateway.specs.HostGrowth.{word_table}
use Rattle.gateway.specs.LentWords.{held_record, first_held}
use Rattle.gateway.specs.WordLaws.{held_ok, held_good}

-- The table of words in memory: the first 65 records in their places, the rest of the places blank.
unfoldable pub loaded_words : List ℕ → Table
loaded_words ws = record {
  count = length (first_held 65 ws);
  records =
      sets (replicate 65 no_record) 0 (first_held 65 ws);
}

-- The records of the table that was loaded.
pub loaded_table : (ws : List ℕ) → table_of (loaded_words ws) ≡ first_held 65 ws
unfolding loaded_words
loaded_table ws =
    take_sets (replicate 65 no_record) (first_held 65 ws)
    (omega (arith, length-take 65 (map held_record (word_table ws)), length-replicate 65 no_record))

-- The table that was loaded is good exactly if the table of the words is,
pub loaded_ok : (ws : List ℕ) → table_ok (table_of (loaded_words ws)) ≡ table_ok (word_table ws)
loaded_ok ws = ap table_ok (loaded_table ws) ∙ held_ok ws

-- and it has 65 places.
pub loaded_places : (ws : List ℕ) → length (loaded_words ws).records ≡ 65
unfolding loaded_words
loaded_places ws = length-sets (replicate 65 no_record) 0 (first_held 65 ws) ∙ length-replicate 65 no_record

-- A good table is loaded as it is,
module _ (ws : List ℕ) (e : table_ok (word_table ws) ≡ true) where
  pub loaded_same : table_of (loaded_words ws) ≡ word_table ws
  loaded_same = loaded_table ws ∙ held_good ws e

  -- with all its records;
  pub loaded_count : (loaded_words ws).count ≡ length (word_table ws)
  unfolding loaded_words
  loaded_count = ap length (held_good ws e)
