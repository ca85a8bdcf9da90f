-- The ends of a base entry's extremes that stand at a place: three words, and what they say.
use mathlib.Core.Path.{◌≡◌, ap, ◌∙◌}
use mathlib.Core.Bool.{true, false}
use mathlib.Core.List.{List, [], ◌∷◌}
use Prim.Native.Nat.{ℕ, ◌+◌, ◌≤◌}
use native.Mathlib.Omega.{arith}
use lib.ListN.{length, drop}
use Rattle.std.specs.Prelude.{Ok, Err}
use Rattle.stops.specs.declared.Stop.{Stop}
use Rattle.stops.specs.Numbers.{number}
use Rattle.fields.specs.Words.{word_at, words_at}
use Rattle.fields_walk.specs.Parsed.{Parsed, stop, got, stop_unless, many}
use Rattle.fields_walk.specs.Fields.{room, word}
use Rattle.fields_walk.specs.Walked.{Says}
use Rattle.fields_walk.proofs.Steps.{then_on, then_off}
use Rattle.fields_walk.proofs.Any.{any_word, any_many, any_walked}
use Rattle.fields_walk.proofs.Found.{finds_words}
use Rattle.cube.specs.declared.Total.{Total}
use Rattle.cube.specs.declared.Extremes.{Extremes}
use Rattle.archive_editions.specs.Edition.{extremes_of, sound_extremes, edition_two}
use Rattle.archive_editions.specs.Reading.{extremes}

module _ (s : List ℕ) (t : Total) (at : ℕ) where
  abbrev tested : List ℕ → List ℕ → Parsed Extremes
  tested ws rest = stop_unless (edition_two.sound t ws) 19 (got (edition_two.tells t ws) rest)

  abbrev a : ℕ
  a = word_at s at

  abbrev b : ℕ
  b = word_at s (at + 4)

  abbrev c : ℕ
  c = word_at s (at + 8)

  pub extremes-off : (e : Stop) → Says s (room 12 (drop at s)) (Err e) → extremes edition_two t (drop at s) ≡ stop (number e)
  unfolding extremes
  extremes-off e f = then_off tested (any_walked (any_many 3 any_word) {s = s} {r = Err e} (record { says = f })).says

  module _ (l : at ≤ length s) {next : ℕ} (f : Says s (room 12 (drop at s)) (Ok next)) where
    three : many 3 word (drop at s) ≡ got (a ∷ b ∷ c ∷ []) (drop next s)
    unfolding words_at
    three =
        let v = (any_walked (any_many 3 any_word) {s = s} {r = Ok next} (record { says = f })).says in
        let k : at + 4 + 4 ≡ at + 8 = omega arith in
        v.1 ∙ ap (λ (ws : List ℕ). got ws (drop next s)) (((finds_words s 3 at).found _ _ l v.1).2 ∙ ap (λ (p : ℕ). a ∷ b ∷ word_at s p ∷ []) k)

    extremes-is : extremes edition_two t (drop at s) ≡ stop_unless (sound_extremes t a b c) 19 (got (extremes_of a b c) (drop next s))
    unfolding extremes
    extremes-is = then_on tested three

    pub extremes_on : sound_extremes t a b c ≡ true → Says s (extremes edition_two t (drop at s)) (Ok next)
    extremes_on e = (extremes_of a b c, extremes-is ∙ rw e, f.2)

    pub extremes_not : sound_extremes t a b c ≡ false → extremes edition_two t (drop at s) ≡ stop 19
    extremes_not e = extremes-is ∙ rw e
