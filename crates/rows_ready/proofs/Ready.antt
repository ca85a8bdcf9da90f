-- Base rows in a flat list: they are base rows of the cube.
use mathlib.Core.Path.{◌≡◌, refl, sym, ap, ap₂, subst, ◌∙◌}
use mathlib.Core.List.Memᴰ
use mathlib.Core.List.{List, ◌∷◌}
use Prim.Native.Nat.{ℕ, zero, suc, ◌+◌, ◌*◌, ◌<◌}
use native.Mathlib.Nat.{suc-mul}
use native.Mathlib.Omega.{arith}
use lib.ListN.{length, get_or, take, drop}
use lib.Seq.{take-take}
use Rattle.lists.proofs.Parts.{drop-take}
use Rattle.cube.specs.declared.Total.{Total}
use Rattle.cube.specs.Measure.{Row}
use Rattle.cube.specs.Codes.{Coded, cell, plain}
use Rattle.cube.specs.Condensed.{Base}
use Rattle.cube.proofs.Codes.{cell-wide}
use Rattle.rows.specs.Rows.{width, row_of, cut, row_at, rows_of, row_total}
use Rattle.rows.proofs.Rows.{rows-codes, row-at, row-length}
use Rattle.rows.proofs.Flat.{blank, rows_at, total-at, row-front}
use Rattle.rows_ready.specs.Ready.{Ready}

-- ---- the front of a list that holds the rows

pub rows-front : (d n : ℕ) (ws : List ℕ) → rows_of d n (take (n * width d) ws) ≡ rows_of d n ws
unfolding rows_of
rows-front d zero ws = refl
rows-front d (suc n) ws =
    let w = width d in
    let e : suc n * w ≡ w + n * w = omega (arith, suc-mul n w) in
    let first : row_of d (take (w + n * w) ws) ≡ row_of d ws =
    sym (row-front d (take (w + n * w) ws)) ∙ ap (row_of d) (take-take w (w + n * w) ws (omega arith)) ∙ row-front d ws in
    rw e (ap₂ (λ (r : Row Total) (l : List (Row Total)). r ∷ l) first (ap (rows_of d n) (drop-take w (n * w) ws) ∙ rows-front d n (drop w ws)))

-- ---- base rows

module _ {d n : ℕ} {ws : List ℕ} (ready : Ready d n ws) where
  abbrev table : List (Row Total)
  table = rows_of d n ws

  pub ready-base : Base (plain d) (cut d n ws)
  ready-base = record {
    valid = λ x m. let r = Memᴰ.of_map (λ q. q.codes) table (rw (← rows-codes d n ws) at m) in subst (Coded d) r.2 (ready.table r.0 r.1);
    distinct = ready.distinct;
  }

  module _ (i : ℕ) (h : i < n) where
    -- the cell of a row on all dimensions, with the row's total, is the row
    pub ready-row : {x : List ℕ} {t : Total} → x ≡ row_at (cut d n ws) i → t ≡ row_total d n ws i
        → record { codes = cell 255 x; total = t } ≡ get_or table i blank
    ready-row {x} {t} e f =
        let long : length x ≡ d = ap length e ∙ row-length d n i ws h ready.size in
        ap₂ (λ (c : List ℕ) (u : Total). record { codes = c; total = u }) (cell-wide 8 x (omega (arith, long, ready.dims)) ∙ e ∙ row-at d n i ws h) (f ∙ total-at d n i ws h)
        ∙ sym (rows_at d n i ws h)
