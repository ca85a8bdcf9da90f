-- Codes under a mask, as bytes, from dimension d on: those that are left to write or to compare.
use mathlib.Core.Path.{◌≡◌, refl, ap, ◌∙◌}
use mathlib.Core.Bool.{◌&&◌}
use mathlib.Core.List.{List, [], ◌++◌}
use Prim.Native.Nat.{ℕ, ◌+◌, ◌*◌, ◌≤◌, ◌<◌}
use native.Mathlib.Nat.{add-zero}
use native.Mathlib.Numerals.{add-one}
use lib.Bits.{bit_or}
use lib.ListN.{length, get_or, drop, drop_of_length-le}
use lib.Seq.{drop-cons, drop-drop, get_or-drop}
use Rattle.fields.specs.Words.{word_bytes, words_bytes}
use Rattle.fields.specs.WordsLaws.{length_words_bytes}
use Rattle.fields.specs.Opening.{starts_with}
use Rattle.fields.specs.OpeningLaws.{starts_with_append}
use Rattle.archive_groups.specs.Masks.{masked}
use Rattle.archive_groups.proofs.Masks.{length-masked}

module _ (missing mine : List ℕ) where
  pub shown-length : length (words_bytes (masked missing mine)) ≡ 4 * length mine
  shown-length = length_words_bytes (masked missing mine) ∙ ap (λ (n : ℕ). 4 * n) (length-masked missing mine)

  unfoldable pub shown_from : ℕ → List ℕ
  shown_from d = words_bytes (masked (drop d missing) (drop d mine))

  pub shown-all : shown_from 0 ≡ words_bytes (masked missing mine)
  unfolding shown_from
  shown-all = refl

  -- the word of dimension d
  abbrev pub word_of : ℕ → List ℕ
  word_of d = word_bytes (bit_or (get_or mine d 0) (get_or missing d 0))

  module _ (d : ℕ) (h : d < length mine) where
    pub shown_on : shown_from d ≡ word_of d ++ shown_from (d + 1)
    unfolding shown_from words_bytes
    shown_on = rw (← drop-drop 1 d missing, add-one, drop-cons mine d 0 h, get_or-drop d missing 0 0, add-zero d)

    pub shown-compared : (s : List ℕ) (at : ℕ) → starts_with (drop at s) (shown_from d) ≡ starts_with (drop at s) (word_of d) && starts_with (drop (at + 4) s) (shown_from (d + 1))
    shown-compared s at = rw (shown_on, starts_with_append (drop at s) (word_of d) (shown_from (d + 1)), drop-drop 4 at s)

  pub shown-none : {d : ℕ} → length mine ≤ d → shown_from d ≡ []
  unfolding shown_from words_bytes
  shown-none {d} h = rw (drop_of_length-le mine {i = d} h)
