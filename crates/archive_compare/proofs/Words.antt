-- How a loop compares with numbers as words: those from place i on are left.
use mathlib.Core.Path.{◌≡◌}
use mathlib.Core.List.{List, map}
use Prim.Native.Nat.{ℕ, ◌+◌, ◌≤◌, ◌<◌}
use lib.ListN.{length, get_or}
use Rattle.std.specs.Prelude.{Err, Ok}
use Rattle.stops.specs.declared.Stop.{Stop}
use Rattle.fields.specs.Words.{word_bytes, words_bytes}
use Rattle.archive_cells.proofs.Words.{from, words_next, words_none}
use Rattle.archive_compare.specs.Matched.{Matching, Matched}
use Rattle.archive_compare.specs.MatchedLaws.{matching_more, matching_off, matching_done}

module _ {A : Type 0} (word : A → ℕ) (xs : List A) (i : ℕ) {s : List ℕ} {at₀ at : ℕ} (w : Matching (words_bytes (map word xs)) (from word xs i) s at₀ at) where
  module _ {x : A} {n : ℕ} (h : i < length xs) (is : x ≡ get_or xs i x) (e : n ≡ word x) where
    -- one more stands there
    pub words_met : {k : ℕ} → Matched s at (word_bytes n) (Ok k) → Matching (words_bytes (map word xs)) (from word xs (i + 1)) s at₀ k
    words_met m = matching_more (word_bytes n) (from word xs (i + 1)) (rw (words_next word xs i h is e) at w) m

    -- the next does not
    pub words-off : {e : Stop} → Matched s at (word_bytes n) (Err e) → Matched s at₀ (words_bytes (map word xs)) (Err e)
    words-off m = matching_off (word_bytes n) (from word xs (i + 1)) (rw (words_next word xs i h is e) at w) m

  pub words_end : length xs ≤ i → Matched s at₀ (words_bytes (map word xs)) (Ok at)
  words_end h = matching_done (rw (words_none word xs i h) at w)
