-- The normal entries: fields of any value behind their count.
use mathlib.Core.Path.{◌≡◌, sym, ap, ◌∙◌}
use mathlib.Core.List.{List}
use Prim.Native.Nat.{ℕ, ◌+◌, ◌*◌, ◌≤◌}
use native.Mathlib.Omega.{arith}
use lib.ListN.{length, drop}
use Rattle.fields.specs.Words.{word_at}
use Rattle.std.specs.Prelude.{Result}
use Rattle.stops.specs.declared.Stop.{Stop}
use Rattle.fields_walk.specs.Parsed.{stop, got, many}
use Rattle.fields_walk.specs.Fields.{room, word}
use Rattle.fields_walk.specs.Walked.{Walked}
use Rattle.fields_walk.proofs.Steps.{then_on, then_off, through, walked_as}
use Rattle.fields_walk.proofs.Fields.{word-at-place, word-rest, word_on, word-off}
use Rattle.cube.specs.declared.Total.{Total}
use Rattle.cube.specs.Measure.{Row}
use Rattle.archive_entries.specs.Reading.{cell, cells}
use Rattle.fields_walk.proofs.Many.{many-length}
use Rattle.fields_walk.proofs.Any.{Any, any_as, any_none, any_then, any_word, any_sum, any_many, any_walked}

-- a normal entry is so many bytes of any value
any_cell : (d : ℕ) → Any (cell d) (4 * d + 12)
unfolding cell
any_cell d =
    let e : d * 4 + (8 + (4 + 0)) ≡ 4 * d + 12 = omega arith in
    any_as e (any_then (any_many d any_word) (λ x. any_then any_sum (λ z. any_then any_word (λ n. any_none _))))

module _ (s : List ℕ) (d at : ℕ) where
  pub cells-off : {n : ℕ} → room 4 (drop at s) ≡ stop n → cells d (drop at s) ≡ stop n
  unfolding cells
  cells-off e = then_off (λ n. many n (cell d)) (word-off (drop at s) e)

  pub cells_on : {n : ℕ} {rest : List ℕ} {u : Unit {0}} {r : Result ℕ Stop} → room 4 (drop at s) ≡ got u rest → n ≡ word_at s at → Walked s (room (n * (4 * d + 12)) rest) r
      → Walked s (cells d (drop at s)) r
  unfolding cells
  cells_on {n} {rest} e f h =
      let w : word_at (drop at s) 0 ≡ n = word-at-place s at ∙ sym f in
      walked_as (then_on (λ n. many n (cell d)) (word_on (drop at s) e) ∙ ap (λ (k : ℕ). many k (cell d) rest) w) (any_walked (any_many n (any_cell d)) h)

pub cells-read : (s : List ℕ) (d at : ℕ) {cs : List (Row Total)} {rest : List ℕ} → at ≤ length s → cells d (drop at s) ≡ got cs rest
    → (at + 4 ≤ length s) × (length cs ≡ word_at s at)
unfolding cells
cells-read s d at h e =
    let t = through (word (drop at s)) (λ n. many n (cell d)) e in
    let w = word-rest s at h t.2 in
    (w.0, many-length (cell d) t.0 t.1 t.3 ∙ w.2)
