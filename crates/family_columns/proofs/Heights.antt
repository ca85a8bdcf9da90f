-- The numbers of levels with ALL are the level counts and one more: what the engine takes.
use mathlib.Core.Path.{◌≡◌, refl, ap₂, ◌∙◌}
use mathlib.Core.List.Memᴰ
use mathlib.Core.List.{List, [], ◌∷◌, map}
use Prim.Native.Nat.{ℕ, ◌+◌, ◌-◌, ◌≤◌}
use native.Mathlib.Omega.{arith}
use lib.ListN.{length, take, drop, length-drop, length-map}
use lib.Seq.{length-take-le}
use Rattle.lists.specs.Lists.{◌∈◌}
use Rattle.family_nodes.specs.Nodes.{node_count}
use Rattle.family_nodes.specs.Families.{heights}
use Rattle.family_slots.specs.Turns.{Heights}
use Rattle.family_fields.specs.Places.{tower_at, tables, levels_at}
use Rattle.family_columns.proofs.Dimensions.{tower_length}

abbrev pub with_all : List ℕ → List ℕ
with_all ns = map (λ n. n + 1) ns

pub heights-at : (s zs ns ps : List ℕ) → length ns ≡ length zs → tables ns ≤ length ps → ((n : ℕ) → n ∈ ns → 1 ≤ n) → heights (levels_at s zs ns ps) ≡ with_all ns
heights-at s [] [] ps e f g = refl
heights-at s [] (n ∷ ns) ps e f g = absurd (omega (arith, e))
heights-at s (z ∷ zs) [] ps e f g = absurd (omega (arith, e))
heights-at s (z ∷ zs) (n ∷ ns) ps e f g =
    let l : length (tower_at s z (take (n - 1) ps)) ≡ n - 1 = tower_length s z (take (n - 1) ps) ∙ length-take-le (n - 1) ps (omega (arith, f)) in
    ap₂ ◌∷◌ (omega (arith, l, g n (Memᴰ.head refl))) (heights-at s zs ns (drop (n - 1) ps) (omega (arith, e)) (omega (arith, f, length-drop (n - 1) ps)) (λ m i. g m (Memᴰ.tail i)))

pub heights-fit : (ns : List ℕ) → length ns ≤ 8 → ((n : ℕ) → n ∈ ns → (1 ≤ n) × (n ≤ 4)) → node_count (with_all ns) ≤ 4096 → Heights (with_all ns)
heights-fit ns d f k = record {
  dims = omega (arith, d, length-map ns (λ n. n + 1));
  some = λ h m. let r = Memᴰ.of_map (λ n. n + 1) ns m in omega (arith, r.2, (f r.0 r.1).0);
  most = λ h m. let r = Memᴰ.of_map (λ n. n + 1) ns m in omega (arith, r.2, (f r.0 r.1).1);
  few = k;
}
