-- Base rows in a window (document 02, C-19): "The window is a dimension and a code", and a reply has "no entry number".
--
--   at i x          the code of dimension i, counted from 1
--   seen i k rows   the rows in the window of dimension i and code k
--   Agree i k a b   rows a and b have the same rows in that window
--   Reply           'no record', or a cell's total
--   replied rows c  the reply of rows for cell c: 'no record' where none of them falls in it
--   unnumbered a    an answer without its entry's number
use Rattle.std.specs.Prelude.{◌≡◌, cond, List, ℕ, ◌-◌, eqb, get_or}
use Rattle.lists.specs.Lists.{◌∈◌, some, keep}
use Rattle.cube.specs.Measure.{Measure, Row}
use Rattle.cube.specs.Lattice.{Lattice}
use Rattle.cube.specs.Cube.{total}
use Rattle.cube.specs.Condensed.{Answer, no_record, found}

abbrev pub at : ℕ → List ℕ → ℕ
at i x = get_or x (i - 1) 0

pub data Reply (A : Type 0) : Type 0 where
  unknown : Reply A
  told : A → Reply A

module _ {A : Type 0} where
  abbrev pub seen : ℕ → ℕ → List (Row A) → List (Row A)
  seen i k rows = keep (λ r. eqb (at i r.codes) k) rows

  pub record Agree (i k : ℕ) (a b : List (Row A)) : Type 0 where
    pub into : (r : Row A) → at i r.codes ≡ k → r ∈ a → r ∈ b
    pub back : (r : Row A) → at i r.codes ≡ k → r ∈ b → r ∈ a

  unfoldable pub replied : Lattice → Measure A → List (Row A) → List ℕ → Reply A
  replied L M rows c = cond (some (λ r. L.falls c r.codes) rows) (told (total L M rows c)) unknown

  abbrev pub unnumbered : Answer A → Reply A
  unnumbered no_record = unknown
  unnumbered (found n t) = told t
