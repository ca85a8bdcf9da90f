-- Fields that stand at a place of an archive are read there.
use mathlib.Core.Path.{◌≡◌, sym, ap, ◌∙◌}
use mathlib.Core.List.{List, ◌++◌, append_assoc}
use Prim.Native.Nat.{ℕ, ◌+◌, ◌*◌, ◌^◌, ◌≤◌, ◌<◌}
use native.Mathlib.Omega.{arith}
use lib.ListN.{length, drop}
use Rattle.lists.specs.Lists.{◌∈◌}
use Rattle.fields.specs.Words.{word_bytes, words_bytes, word_at, words_at}
use Rattle.cube.specs.declared.Total.{Total}
use Rattle.cube.specs.Measure.{Row}
use Rattle.archive_entries.specs.Layout.{Based, cell_bytes, base_bytes}
use Rattle.archive_entries.specs.Reading.{list, cell}
use Rattle.archive_entries.specs.Places.{row_there, list_there, base_there}
use Rattle.archive_entries.proofs.Written.{Words, Wide, cell_codec, list_codec}
use Rattle.fields_walk.proofs.Found.{Finds, finds_to, finds_none, finds_then, finds_sum, finds_word, finds_words}
use Rattle.archive_entries.proofs.Entry.{finds_list}

module _ (s : List ℕ) where
  finds_cell : (d at : ℕ) → Finds s (cell d) at (at + 4 * d + 12) (λ r. r ≡ row_there s d at)
  unfolding cell
  finds_cell d at =
      let e : at + 4 * d + 8 + 4 ≡ at + 4 * d + 12 = omega arith in
      finds_to e (finds_then (finds_words s d at) (λ x p. finds_then (finds_sum s (at + 4 * d)) (λ z q. finds_then (finds_word s (at + 4 * d + 8))
      (λ n r. finds_none (record { codes = x; total = record { sum = z; count = n } }) (λ i. record { codes = p i; total = record { sum = q i; count = r i } })))))

  -- a cell with its sum and count
  module _ (d : ℕ) (r : Row Total) (w : Words d r.codes × Wide r.total) (at : ℕ) (rest : List ℕ) (h : at ≤ length s) (e : drop at s ≡ cell_bytes r ++ rest) where
    cell-found : (at + 4 * d + 12 ≤ length s) × (rest ≡ drop (at + 4 * d + 12) s) × (r ≡ row_there s d at)
    cell-found = (finds_cell d at).found r rest h (ap (cell d) e ∙ (cell_codec d).back r rest w)

    pub cell_there : row_there s d at ≡ r
    cell_there = sym cell-found.2

  -- a base entry
  pub base_there_lem : (d : ℕ) (b : Based) → Words d b.row.codes × Wide b.row.total → length b.list ≤ 70 → ((n : ℕ) → n ∈ b.list → n < 2 ^ 32) → (at : ℕ) (rest : List ℕ)
      → at ≤ length s → drop at s ≡ base_bytes b ++ rest → base_there s d at ≡ b
  unfolding base_bytes
  base_there_lem d b w short sets at rest h e =
      let l = word_bytes (length b.list) ++ words_bytes b.list in
      let c = cell-found d b.row w at (l ++ rest) h (e ∙ append_assoc (cell_bytes b.row) l rest) in
      let k = (finds_list s (at + 4 * d + 12)).found b.list rest c.0 (ap list (sym c.1) ∙ list_codec.back b.list rest ((omega arith, omega (arith, short)), sets)) in
      let z : at + 4 * d + 12 + 4 ≡ at + 4 * d + 16 = omega arith in
      let list : b.list ≡ list_there s d at = k.2 ∙ ap (words_at s (word_at s (at + 4 * d + 12))) z in
      sym (λ i. record { row = c.2 i; list = list i })
