-- Rows in another order: the same cells, the same totals, the same base rows.
use mathlib.Core.Path.{◌≡◌, sym, ◌∙◌, ap}
use mathlib.Core.List.Memᴰ
use mathlib.Core.List.{List, ◌∷◌, map, Permᴰ}
use Prim.Native.Nat.{ℕ}
use Rattle.lists.specs.Lists.{◌∈◌}
use Rattle.lists.proofs.Members.{map_same, flat-same}
use Rattle.lists.proofs.Permutations.{perm_in, perm_back, perm_keep, perm_same}
use Rattle.lattice.specs.Sets.{full}
use Rattle.cube.specs.Measure.{Measure, Adds, Row, total_of, codes_of}
use Rattle.cube.specs.Lattice.{Lattice}
use Rattle.cube.specs.Codes.{plain}
use Rattle.cube.specs.Cube.{cuboid, existing, total, filled, grouped, cells, complete}
use Rattle.cube.specs.Condensed.{ours}
use Rattle.cube.specs.Table.{folded}
use Rattle.cube.proofs.Cells.{cuboid-same}
use Rattle.cube.proofs.Existing.{existing-same}
use Rattle.cube.proofs.Regroup.{sum-cons, more_swap}

-- The running total is the same in whichever order the rows come.
pub running_reordered : {A : Type 0} (M : Measure A) → Adds M → {rows others : List (Row A)} → Permᴰ rows others → total_of M rows ≡ total_of M others
running_reordered M E = perm_same (total_of M)
    (λ r l m e. sum-cons M E r l ∙ ap (M.more r.total) e ∙ sym (sum-cons M E r m))
    (λ q r l. sum-cons M E q (r ∷ l) ∙ ap (M.more q.total) (sum-cons M E r l) ∙ more_swap M E q.total r.total (total_of M l)
    ∙ sym (sum-cons M E r (q ∷ l) ∙ ap (M.more r.total) (sum-cons M E q l)))

module _ {A : Type 0} {rows others : List (Row A)} (o : Permᴰ rows others) where
  codes_in : (x : List ℕ) → x ∈ codes_of rows → x ∈ codes_of others
  codes_in x m = let r = Memᴰ.of_map (λ q. q.codes) rows m in Memᴰ.cast (sym r.2) (Memᴰ.map (λ q. q.codes) (perm_in o r.1))

  codes-back : (x : List ℕ) → x ∈ codes_of others → x ∈ codes_of rows
  codes-back x m = let r = Memᴰ.of_map (λ q. q.codes) others m in Memᴰ.cast (sym r.2) (Memᴰ.map (λ q. q.codes) (perm_back o r.1))

  module _ (L : Lattice) where
    -- They have the same cells,
    pub cuboid_reordered : (s : ℕ) → cuboid L (codes_of rows) s ≡ cuboid L (codes_of others) s
    cuboid_reordered s = cuboid-same L (codes_of rows) (codes_of others) s codes_in codes-back

    existing_reordered : (s : ℕ) → existing L (codes_of rows) s ≡ existing L (codes_of others) s
    existing_reordered s = existing-same L (codes_of rows) (codes_of others) s codes_in codes-back

    module _ (M : Measure A) (E : Adds M) where
      -- with the same totals,
      pub total_reordered : (c : List ℕ) → total L M rows c ≡ total L M others c
      unfolding total
      total_reordered c = running_reordered M E (perm_keep (λ r. L.falls c r.codes) o)

      pub grouped_reordered : (s : ℕ) → grouped L M rows s ≡ grouped L M others s
      unfolding grouped
      grouped_reordered s =
          map_same (filled L M rows) (filled L M others) (cuboid L (codes_of rows) s) (λ c m. ap (λ (a : A). record { codes = c; total = a }) (total_reordered c))
          ∙ ap (map (filled L M others)) (cuboid_reordered s)

      pub cells_reordered : (s : ℕ) → cells L M rows s ≡ cells L M others s
      unfolding cells
      cells_reordered s =
          map_same (filled L M rows) (filled L M others) (existing L (codes_of rows) s) (λ c m. ap (λ (a : A). record { codes = c; total = a }) (total_reordered c))
          ∙ ap (map (filled L M others)) (existing_reordered s)

      pub complete_reordered : complete L M rows ≡ complete L M others
      unfolding complete
      complete_reordered = flat-same (cells L M rows) (cells L M others) L.nodes (λ s m. cells_reordered s)

  -- and the same base rows, repeated rows too: so the same entries, lists and normal cells.
  pub folded_reordered : (M : Measure A) → Adds M → (d : ℕ) → folded M d rows ≡ folded M d others
  unfolding folded
  folded_reordered M E d = grouped_reordered (plain d) M E (full d)

  pub ours_reordered : (M : Measure A) → Adds M → (d : ℕ) → ours (plain d) M (folded M d rows) ≡ ours (plain d) M (folded M d others)
  ours_reordered M E d = ap (ours (plain d) M) (folded_reordered M E d)
