-- One row of the pass, in flat lists: the row that is stored behind those done is the next one of the merge.
use Rattle.std.specs.Prelude.{Some, None}
use mathlib.Core.Path.{◌≡◌, refl, sym, ap, subst, ◌∙◌}
use mathlib.Core.List.{List, [], ◌∷◌, ◌++◌}
use Prim.Native.Nat.{ℕ, ◌+◌, ◌≤◌, ◌<◌}
use native.Mathlib.Omega.{arith}
use lib.ListN.{length, get_or, drop, length-drop, drop_of_length-le}
use Rattle.lists.proofs.Members.{at_in}
use Rattle.cube.specs.declared.Total.{Total}
use Rattle.cube.specs.Measure.{Row, plus, sums, codes_of}
use Rattle.cube.specs.Bounds.{most, Bounded}
use Rattle.cube.specs.Codes.{cell}
use Rattle.rows.specs.Rows.{cut, row_at, rows_of, row_total}
use Rattle.rows.proofs.Rows.{rows-codes}
use Rattle.rows.proofs.Flat.{blank, rows-length}
use Rattle.rows_ready.proofs.Ready.{ready-row}
use Rattle.archive_entries.proofs.Limits.{count-le}
use Rattle.rows_merge.specs.declared.Turn.{Turn}
use Rattle.rows_merge.specs.declared.Turn.TheVariants.{First, Second, Both}
use Rattle.rows_merge.specs.United.{as_one, merged, Merging}
use Rattle.rows_merge.specs.Turns.{turn}
use Rattle.rows_merge.specs.Pass.{Pair, Passed, Collected}
use Rattle.rows_merge.proofs.Merging.{merging_start, merging-done, merging_longer}
use Rattle.rows_merge.proofs.Turns.{left-first, left-second, left_both, merging-first, merging-second, merging-both}

module _ {d n : ℕ} {ws : List ℕ} {d' m : ℕ} {ws' : List ℕ} (p : Pair d n ws m ws') (same : d' ≡ d) where
  abbrev first : List (Row Total)
  first = rows_of d n ws

  abbrev second : List (Row Total)
  second = rows_of d m ws'

  -- the total of row i of the first list, and of row j of the second
  abbrev mine : ℕ → Total
  mine = row_total d n ws

  abbrev other : ℕ → Total
  other = row_total d' m ws'

  -- two rows can be added
  pub pair_adds : (i j : ℕ) → i < n → j < m → Bounded (mine i) × Bounded (other j) × ((mine i).count + (other j).count ≤ most)
  unfolding row_total
  pair_adds i j h k =
      let x = at_in blank first i (omega (arith, h, rows-length d n ws)) in
      let y = at_in blank second j (omega (arith, k, rows-length d m ws')) in
      rw same (p.one.summable.each (get_or first i blank) x, p.other.summable.each (get_or second j blank) y, omega (arith, p.few, count-le first x, count-le second y))

  module _ (i j : ℕ) where
    -- whose turn it is, by the codes of both lists
    abbrev here : Turn
    here = turn (drop i (cut d n ws)) (drop j (cut d' m ws'))

    by_rows : {t : Turn} → here ≡ t → turn (drop i (codes_of first)) (drop j (codes_of second)) ≡ t
    by_rows e = rw (rows-codes d n ws, rows-codes d m ws') (rw same at e)

    pub turn-first : here ≡ First → i < n
    turn-first e = omega (arith, left-first sums blank first second i j (by_rows e), rows-length d n ws)

    pub turn-second : here ≡ Second → i ≤ n → i + j < n + m → j < m
    turn-second e h k =
        let x = rows-length d n ws in
        let y = rows-length d m ws' in
        omega (arith, y, left-second sums blank first second i j (by_rows e) (omega (arith, x, h)) (omega (arith, x, y, k)))

    pub turn-both : here ≡ Both → (i < n) × (j < m)
    turn-both e =
        let l = left_both sums blank first second i j (by_rows e) in
        (omega (arith, l.0, rows-length d n ws), omega (arith, l.1, rows-length d m ws'))

    module _ {done done' : List (Row Total)} {x : List ℕ} {t : Total} (g : Passed d n ws m ws' i j done) (s : done' ≡ done ++ record { codes = cell 255 x; total = t } ∷ []) where
      pub passed_first : here ≡ First → x ≡ row_at (cut d n ws) i → t ≡ mine i → Passed d n ws m ws' (i + 1) j done'
      passed_first e q f =
          let h = turn-first e in
          record {
            of_one = omega (arith, h);
            of_other = g.of_other;
            merging = subst (λ (l : List (Row Total)). Merging sums first second l (drop (i + 1) first) (drop j second)) (sym (s ∙ ap (λ (r : Row Total). done ++ r ∷ []) (ready-row p.one i h q f)))
                (merging-first sums blank first second i j done g.merging (by_rows e));
          }

      pub passed_second : here ≡ Second → j < m → x ≡ row_at (cut d' m ws') j → t ≡ other j → Passed d n ws m ws' i (j + 1) done'
      passed_second e h q f = record {
        of_one = g.of_one;
        of_other = omega (arith, h);
        merging = subst (λ (l : List (Row Total)). Merging sums first second l (drop i first) (drop (j + 1) second)) (sym (s ∙ ap (λ (r : Row Total). done ++ r ∷ []) (ready-row p.other j h (rw same at q) (rw same at f))))
            (merging-second sums blank first second i j done g.merging (by_rows e) (omega (arith, h, rows-length d m ws')));
      }

      pub passed_both : here ≡ Both → x ≡ row_at (cut d n ws) i → t ≡ plus (mine i) (other j) → Passed d n ws m ws' (i + 1) (j + 1) done'
      unfolding row_total
      passed_both e q f =
          let h = turn-both e in
          let r : record { codes = cell 255 x; total = t } ≡ as_one sums (get_or first i blank) (get_or second j blank) =
          ap (λ (u : Total). record { codes = cell 255 x; total = u }) (rw same at f)
          ∙ ap (λ (u : Row Total). as_one sums u (get_or second j blank)) (ready-row p.one i h.0 q refl) in
          record {
            of_one = omega (arith, h.0);
            of_other = omega (arith, h.1);
            merging = subst (λ (l : List (Row Total)). Merging sums first second l (drop (i + 1) first) (drop (j + 1) second)) (sym (s ∙ ap (λ (r : Row Total). done ++ r ∷ []) r))
                (merging-both sums blank first second i j done g.merging (by_rows e));
          }

  -- ---- the whole pass

  pub passed_start : Passed d n ws m ws' 0 0 []
  passed_start = record { of_one = omega arith; of_other = omega arith; merging = merging_start sums first second }

  module _ {i j k : ℕ} (cells : List ℕ) (g : Passed d n ws m ws' i j (rows_of d k cells)) where
    -- a full store with a row left
    pub passed_over : k ≡ 1024 → i + j < n + m → Collected 1024 (merged sums first (rows_of d' m ws')) d None cells
    passed_over e h =
        let l = merging_longer sums first second (rows_of d k cells) (drop i first) (drop j second) g.merging in
        rw same (omega (arith, l.0, l.1, e, h, rows-length d k cells, length-drop i first, length-drop j second, rows-length d n ws, rows-length d m ws'))

    -- both lists at their ends
    pub passed_done : k ≤ 1024 → n + m ≤ i + j → Collected 1024 (merged sums first (rows_of d' m ws')) d (Some k) cells
    passed_done h e =
        let x : length first ≤ i = omega (arith, e, g.of_one, g.of_other, rows-length d n ws) in
        let y : length second ≤ j = omega (arith, e, g.of_one, g.of_other, rows-length d m ws') in
        (h, rw same (merging-done sums first second (rows_of d k cells) (rw (drop_of_length-le first x, drop_of_length-le second y) at g.merging)))
