-- The answer to a question to base rows in a flat list, by the first row that falls in the cell.
use mathlib.Core.Path.{◌≡◌, sym, ap, ◌∙◌}
use mathlib.Core.Bool.{Bool, true, false}
use mathlib.Core.List.{List}
use Prim.Native.Nat.{ℕ, ◌+◌, ◌*◌, ◌^◌, ◌≤◌, ◌<◌}
use native.Mathlib.Omega.{arith}
use lib.ListN.{length}
use Rattle.std.specs.Prelude.{Option, Some, None}
use Rattle.lists.specs.Lists.{◌∈◌}
use Rattle.lists.specs.Search.{Between}
use Rattle.fields.specs.Words.{word_at}
use Rattle.fields_sums.specs.Twos.{sum_at}
use Rattle.cube.specs.declared.Total.{Total}
use Rattle.cube.specs.Measure.{Row, sums as measure, codes_of}
use Rattle.cube.specs.Codes.{falls, set-of, plain}
use Rattle.cube.specs.Condensed.{single, normals, Base, lookup, ours}
use Rattle.rows.specs.Rows.{cut, row_at, rows_of, row_total}
use Rattle.rows.proofs.Rows.{cut-length, rows-codes}
use Rattle.rows.proofs.Flat.{rows-length}
use Rattle.archive_entries.proofs.Limits.{normals-few}
use Rattle.rows_ready.specs.Ready.{Ready}
use Rattle.rows_ready.proofs.Ready.{ready-base}
use Rattle.call_search.specs.Search.{entry_before}
use Rattle.call_questions.specs.declared.Cell.{Cell}
use Rattle.call_questions.specs.Questions.{looked, rowless, FirstAt, First, NormalsAt}
use Rattle.call_questions.proofs.Stored.{held-count, held-room, held-within}
use Rattle.call_questions.proofs.Answers.{answer-none, answer-row, shared-cell, found_here, answer-normal}

-- the normal entry at a place answers, by its number
pub record Entry (s : List ℕ) (place d number : ℕ) (a : Option Cell) : Type 0 where
  pub within : place + (4 * d + 12) ≤ length s
  pub fits : number < 2 ^ 32
  pub answers : Some (record { sum = sum_at s (place + 4 * d); count = word_at s (place + 4 * d + 8); entry = number }) ≡ a

module _ {d n : ℕ} {ws : List ℕ} (ready : Ready d n ws) (c : List ℕ) where
  abbrev table : List (Row Total)
  table = rows_of d n ws

  abbrev pub asked : Option Cell
  asked = looked (lookup (plain d) c (ours (plain d) measure table))

  same_codes : codes_of table ≡ cut d n ws
  same_codes = rows-codes d n ws

  base : Base (plain d) (codes_of table)
  base = rw same_codes (ready-base ready)

  -- the bytes of the normal entries
  pub asked-room : {s : List ℕ} {at m : ℕ} → NormalsAt s at m d table → at + m * (4 * d + 12) ≤ length s
  asked-room held = held-room held base ready.summable

  -- no row falls in the cell
  pub asked-none : First c (cut d n ws) None → looked (rowless d n c) ≡ asked
  asked-none f =
      ap (λ (k : ℕ). looked (rowless d k c)) (sym (rows-length d n ws))
      ∙ ap looked (answer-none d table base c (rw same_codes f))

  module _ {i : ℕ} (f : FirstAt c (cut d n ws) i) where
    pub asked-below : i < n
    asked-below = rw cut-length at f.within

    inside : i < length table
    inside = rw rows-length asked-below

    falls-here : falls c (row_at (codes_of table) i) ≡ true
    falls-here = rw same_codes f.here

    abbrev alone : Bool
    alone = single (plain d) (cut d n ws) (set-of c) (row_at (cut d n ws) i)

    -- one row does
    pub asked-row : alone ≡ true → Some (record { sum = (row_total d n ws i).sum; count = (row_total d n ws i).count; entry = i }) ≡ asked
    unfolding row_total
    asked-row e = sym (ap looked (answer-row d table base c i inside falls-here (rw same_codes e)))

    -- two or more do
    module _ {s : List ℕ} {at m k : ℕ} (held : NormalsAt s at m d table) (e : length c ≡ d) (g : Between (entry_before s at c) m k k) (p : alone ≡ false) where
      normal : c ∈ normals (plain d) (codes_of table)
      normal = shared-cell d table base c i inside falls-here (rw same_codes p)

      here : k < m
      here = found_here d table base c held ready.summable e g normal

      pub asked-normal : Entry s (at + k * (4 * d + 12)) d (n + k) asked
      asked-normal = record {
        within = held-within held base ready.summable k here;
        fits = omega (arith, here, held-count held, normals-few d table ready.dims (rw rows-length ready.few), ready.few);
        answers = sym (ap looked (answer-normal d table base c held ready.summable e g normal)
            ∙ ap (λ (j : ℕ). Some (record { sum = sum_at s (at + k * (4 * d + 12) + 4 * d); count = word_at s (at + k * (4 * d + 12) + 4 * d + 8); entry = j + k })) (rows-length d n ws));
      }
