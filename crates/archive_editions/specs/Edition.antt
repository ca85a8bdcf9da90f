-- The editions of an archive (document 02, C-17). They differ in their opening, and in how many words an entry has behind its count: none, or those of its extremes.
--
--   extreme_words e     1 if extremes are known and else 0, the least, the greatest: both 0 if they are not known
--   extremes_of k l g   the extremes that three words stand for
--   Edition             how many words its entries have behind the count; what these tell of a base entry's extremes, where its sum and count are t; and whether
--                       they may stand there (stop 19)
--   edition_one         edition one: no words, and the extremes are told by sum and count (C-17: "as converted")
--   edition_two         edition two: known or not, least, greatest; both zero if unknown
--   words_in E e        the words that the edition has for extremes: a front of the three
--   Kept E t e          extremes that a base row of the edition can have beside sum and count t: what is written is read back
use Rattle.std.specs.Prelude.{◌≡◌, Bool, true, false, ◌&&◌, List, [], ◌∷◌, ℕ, zero, suc, eqb, take, get_or}
use Rattle.fields_sums.specs.Twos.{signed_of, bits_of}
use Rattle.cube.specs.declared.Total.{Total}
use Rattle.cube.specs.declared.Extremes.{Extremes}
use Rattle.cube.specs.declared.Extremes.TheVariants.{Any, Unknown, Known}
use Rattle.cube.specs.Bounds.{suits}
use Rattle.cube.specs.Extremes.{converted, Readings}

abbrev pub extreme_words : Extremes → List ℕ
extreme_words Any = 0 ∷ 0 ∷ 0 ∷ []
extreme_words Unknown = 0 ∷ 0 ∷ 0 ∷ []
extreme_words (Known l g) = 1 ∷ bits_of 32 l ∷ bits_of 32 g ∷ []

abbrev pub extremes_of : ℕ → ℕ → ℕ → Extremes
extremes_of zero l g = Unknown
extremes_of (suc k) l g = Known (signed_of 32 l) (signed_of 32 g)

pub record Edition : Type 0 where
  pub extra : ℕ
  pub tells : Total → List ℕ → Extremes
  pub sound : Total → List ℕ → Bool

abbrev pub edition_one : Edition
edition_one = record { extra = 0; tells = λ t ws. converted t; sound = λ t ws. true }

-- by the known field: 0 with zeros, or 1 with a least and a greatest that suit sum and count
abbrev pub sound_extremes : Total → ℕ → ℕ → ℕ → Bool
sound_extremes t zero l g = eqb l 0 && eqb g 0
sound_extremes t (suc zero) l g = suits t (signed_of 32 l) (signed_of 32 g)
sound_extremes t (suc (suc k)) l g = false

abbrev pub edition_two : Edition
edition_two = record {
  extra = 3;
  tells = λ t ws. extremes_of (get_or ws 0 0) (get_or ws 1 0) (get_or ws 2 0);
  sound = λ t ws. sound_extremes t (get_or ws 0 0) (get_or ws 1 0) (get_or ws 2 0);
}

abbrev pub words_in : Edition → Extremes → List ℕ
words_in E e = take E.extra (extreme_words e)

pub record Kept (E : Edition) (t : Total) (e : Extremes) : Type 0 where
  pub readings : Readings e
  pub sound : E.sound t (words_in E e) ≡ true
  pub back : E.tells t (words_in E e) ≡ e
