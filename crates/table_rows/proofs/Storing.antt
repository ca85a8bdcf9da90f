-- Storing the rows of a table: where the loop stands before row i.
use mathlib.Core.Path.{◌≡◌, sym, ap, ◌∙◌}
use mathlib.Core.List.{List, [], ◌∷◌, ◌++◌, append-nil}
use Prim.Native.Nat.{ℕ, suc, ◌+◌, ◌-◌, ◌*◌, ◌≤◌, ◌<◌}
use native.Mathlib.Nat.{suc-mul, sub-zero}
use native.Mathlib.Omega.{arith}
use lib.ListN.{length}
use lib.Seq.{append_snoc}
use Rattle.cube.specs.declared.Total.{Total}
use Rattle.cube.specs.Measure.{Row}
use Rattle.rows.specs.Rows.{rows_of}
use Rattle.table.specs.Reading.{record_there, rows_at}

-- the rows that are stored and those left are the rows
pub record Turn (b : List ℕ) (d n start : ℕ) (ws : List ℕ) (at i : ℕ) : Type 0 where
  pub below : i ≤ n
  pub place : at + (n - i) * (4 * d + 4) ≤ length b
  pub rows : rows_at b d n start ≡ rows_of d i ws ++ rows_at b d (n - i) at

module _ (b : List ℕ) (d n start : ℕ) (ws : List ℕ) where
  pub turn-start : start + n * (4 * d + 4) ≤ length b → Turn b d n start ws start 0
  unfolding rows_of
  turn-start h = record { below = omega arith; place = rw sub-zero h; rows = rw sub-zero }

  module _ {at i : ℕ} (t : Turn b d n start ws at i) where
    next : i < n → (n - i) * (4 * d + 4) ≡ (4 * d + 4) + (n - (i + 1)) * (4 * d + 4)
    next h =
        let e : n - i ≡ suc (n - (i + 1)) = omega arith in
        let m = suc-mul (n - (i + 1)) (4 * d + 4) in
        ap (λ j. j * (4 * d + 4)) e ∙ omega (arith, m)

    pub turn_on : (us : List ℕ) → i < n → rows_of d (i + 1) us ≡ rows_of d i ws ++ record_there b d at ∷ []
        → Turn b d n start us (at + (4 * d + 4)) (i + 1)
    unfolding rows_at
    turn_on us h e =
        let f : n - i ≡ suc (n - (i + 1)) = omega arith in
        let left = rows_at b d (n - (i + 1)) (at + (4 * d + 4)) in
        record {
          below = omega arith;
          place = omega (arith, next h, t.place);
          rows = t.rows ∙ ap (λ (j : ℕ). rows_of d i ws ++ rows_at b d j at) f ∙ sym (append_snoc (rows_of d i ws) (record_there b d at) left)
              ∙ ap (λ (l : List (Row Total)). l ++ left) (sym e);
        }

    pub turn-done : n ≤ i → rows_of d n ws ≡ rows_at b d n start
    unfolding rows_at
    turn-done h =
        let f : n - i ≡ 0 = omega arith in
        let g : i ≡ n = let z = t.below in omega arith in
        sym (t.rows ∙ ap (λ (j : ℕ). rows_of d i ws ++ rows_at b d j at) f ∙ append-nil (rows_of d i ws) ∙ ap (λ (j : ℕ). rows_of d j ws) g)
