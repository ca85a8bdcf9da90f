-- Level counts that were read are within their limits, and tell how many nodes there are.
use mathlib.Core.Path.{◌≡◌, refl, sym, ap, ap₂, subst, ◌∙◌}
use mathlib.Core.List.Memᴰ
use mathlib.Core.List.{List, [], ◌∷◌}
use Prim.Native.Nat.{ℕ, suc, ◌+◌, ◌-◌, ◌*◌, ◌^◌, ◌≤◌, ◌<◌}
use native.Mathlib.Nat.{mul_assoc, mul-one, mul-le-mul, mul-le-mul_left, mul-pos, pow-suc}
use native.Mathlib.Numerals.{add-one}
use native.Mathlib.Omega.{arith}
use lib.ListN.{length, get_or, take, drop, length-drop, drop_of_length-le}
use lib.Pow.{pow_mono, pow_pos}
use lib.Seq.{length-take-le, drop-cons}
use borrow.Author.Tests.{le-leb, lt-leb}
use Rattle.lists.specs.Lists.{◌∈◌}
use Rattle.fields.specs.Words.{word_at, words_at}
use Rattle.std.specs.Prelude.{Result}
use Rattle.stops.specs.declared.Stop.{Stop}
use Rattle.fields_walk.proofs.Found.{finds_field, finds_all}
use Rattle.fields_walk.specs.Parsed.{Parsed, stop, got, and_then, many}
use Rattle.fields_walk.specs.Fields.{field}
use Rattle.fields_walk.proofs.Steps.{then_on, then_off}
use Rattle.family_nodes.specs.Nodes.{node_count}
use Rattle.family_nodes.specs.Families.{Levels, heights}
use Rattle.family_fields.specs.Shape.{noted, towers, levelled}
use Rattle.family_fields.specs.Places.{tower_at, tables, nodes_of, levels_at, Reads, Towered}
use Rattle.family_fields.proofs.Levels.{many-within}
use Rattle.family_fields.proofs.Towers.{tables-few}

-- ---- how many nodes

tower_length : (s : List ℕ) (z : ℕ) (ps : List ℕ) → length (tower_at s z ps) ≡ length ps
tower_length s z [] = refl
tower_length s z (p ∷ ps) = ap suc (tower_length s (word_at s p) ps)

pub nodes-at : (s zs ns ps : List ℕ) → length zs ≡ length ns → tables ns ≤ length ps → ((n : ℕ) → n ∈ ns → 1 ≤ n) → node_count (heights (levels_at s zs ns ps)) ≡ nodes_of ns
nodes-at s [] [] ps e f g = refl
nodes-at s [] (n ∷ ns) ps e f g = absurd (omega (arith, e))
nodes-at s (z ∷ zs) [] ps e f g = absurd (omega (arith, e))
nodes-at s (z ∷ zs) (n ∷ ns) ps e f g =
    let l : length (tower_at s z (take (n - 1) ps)) ≡ n - 1 = tower_length s z (take (n - 1) ps) ∙ length-take-le (n - 1) ps (omega (arith, f)) in
    let h : length (tower_at s z (take (n - 1) ps)) + 2 ≡ n + 1 = omega (arith, l, g n (Memᴰ.head refl)) in
    ap₂ ◌*◌ h (nodes-at s zs ns (drop (n - 1) ps) (omega (arith, e)) (omega (arith, f, length-drop (n - 1) ps)) (λ m i. g m (Memᴰ.tail i)))

pub nodes-pos : (ns : List ℕ) → 1 ≤ nodes_of ns
nodes-pos [] = omega arith
nodes-pos (n ∷ ns) = mul-pos {m = n + 1} {n = nodes_of ns} (omega arith) (nodes-pos ns)

nodes-power : (ns : List ℕ) → ((n : ℕ) → n ∈ ns → n ≤ 4) → nodes_of ns ≤ 2 ^ (3 * length ns)
nodes-power [] h = omega (arith, pow_pos 0)
nodes-power (n ∷ ns) h =
    let k = 3 * length ns in
    let e : 3 * suc (length ns) ≡ suc (suc (suc k)) = omega arith in
    let m : (n + 1) * nodes_of ns ≤ 8 * 2 ^ k = mul-le-mul (omega (arith, h n (Memᴰ.head refl))) (nodes-power ns (λ m i. h m (Memᴰ.tail i))) in
    subst (λ (z : ℕ). (n + 1) * nodes_of ns ≤ 2 ^ z) (sym e) (omega (arith, m, pow-suc 2 k, pow-suc 2 (suc k), pow-suc 2 (suc (suc k))))

pub nodes-few : (ns : List ℕ) → ((n : ℕ) → n ∈ ns → n ≤ 4) → length ns ≤ 8 → nodes_of ns ≤ 16777216
nodes-few ns h l = omega (arith, nodes-power ns h, pow_mono {i = 3 * length ns} {j = 24} (omega (arith, l)))

-- the product so far
module _ (ns : List ℕ) (d f : ℕ) (k : d < length ns) (e : f * nodes_of (drop d ns) ≡ nodes_of ns) where
  pub product_on : f * (get_or ns d 0 + 1) * nodes_of (drop (d + 1) ns) ≡ nodes_of ns
  product_on =
      mul_assoc f (get_or ns d 0 + 1) (nodes_of (drop (d + 1) ns))
      ∙ ap (λ (l : List ℕ). f * nodes_of l) (ap (λ (j : ℕ). get_or ns d 0 ∷ drop j ns) (add-one d) ∙ sym (drop-cons ns d 0 k)) ∙ e

  pub product-most : f * (get_or ns d 0 + 1) ≤ nodes_of ns
  product-most =
      let g = f * (get_or ns d 0 + 1) in
      let a : g * 1 ≤ g * nodes_of (drop (d + 1) ns) = mul-le-mul_left g (nodes-pos (drop (d + 1) ns)) in
      omega (arith, a, mul-one g, product_on)

pub product-done : (ns : List ℕ) (d f : ℕ) → length ns ≤ d → f * nodes_of (drop d ns) ≡ nodes_of ns → f ≡ nodes_of ns
product-done ns d f k e = sym (mul-one f) ∙ ap (λ (l : List ℕ). f * nodes_of l) (sym (drop_of_length-le ns k)) ∙ e

-- ---- stop 22

module _ (p : Parsed (List Levels)) {ts : List Levels} {rest : List ℕ} (e : p ≡ got ts rest) where
  pub noted-many : 4096 < node_count (heights ts) → and_then p noted ≡ stop 22
  noted-many h = then_on noted e ∙ rw (lt-leb (node_count (heights ts)) 4096 h)

  pub noted-few : node_count (heights ts) ≤ 4096 → and_then p noted ≡ got ts rest
  noted-few h = then_on noted e ∙ rw (le-leb (node_count (heights ts)) 4096 h)

-- ---- what the code saw its answer to be, and the same of what is read alike

pub seen-towered : {s : List ℕ} {p : Parsed (List Levels)} {zs ns ps : List ℕ} {w u : Result ℕ Stop} → w ≡ u → Towered s p zs ns ps w → Reads s p zs ns ps u
seen-towered {s} {p} {zs} {ns} {ps} e h = subst (Reads s p zs ns ps) e h.reads

pub towered_as : {s : List ℕ} {p q : Parsed (List Levels)} {zs ns ps : List ℕ} {w : Result ℕ Stop} → p ≡ q → Towered s q zs ns ps w → Towered s p zs ns ps w
towered_as {s} {p} {q} {zs} {ns} {ps} {w} e h = record { reads = subst (λ r. Reads s r zs ns ps w) (sym e) h.reads }

-- ---- places enough for all tables

pub shape-nodes : (s zs ns places : List ℕ) → length ns ≡ length zs → length zs ≤ 8 → ((n : ℕ) → n ∈ ns → (1 ≤ n) × (n ≤ 4)) → 24 ≤ length places → node_count (heights (levels_at s zs ns (take (tables ns) places))) ≡ nodes_of ns
shape-nodes s zs ns places e d f room =
    let l = length-take-le (tables ns) places (omega (arith, tables-few ns (λ n m. (f n m).1), e, d, room)) in
    nodes-at s zs ns (take (tables ns) places) (sym e) (omega (arith, l)) (λ n m. (f n m).0)

-- ---- the level counts

module _ (s zs : List ℕ) (start : ℕ) (h : start ≤ length s) where
  pub shape-off : {n : ℕ} → many (length zs) (field 1 5 21) (drop start s) ≡ stop n → levelled zs (drop start s) ≡ stop n
  unfolding levelled
  shape-off e = then_off noted (then_off (towers zs) e)

  pub record Counts (ns : List ℕ) : Type 0 where
    pub whole : start + 4 * length zs ≤ length s
    pub are : ns ≡ words_at s (length zs) start
    pub each : (n : ℕ) → n ∈ ns → (1 ≤ n) × (n ≤ 4)

  module _ {ns rest : List ℕ} (e : many (length zs) (field 1 5 21) (drop start s) ≡ got ns rest) where
    pub shape-counts : Counts ns
    shape-counts =
        let f = (finds_all s (finds_field s 1 5 21) (length zs) start).found ns rest h e in
        record { whole = f.0; are = f.2; each = λ n m. let b = many-within 1 5 21 (length zs) (drop start s) e n m in (b.0, omega (arith, b.1)) }

    pub shape_on : levelled zs (drop start s) ≡ and_then (towers zs ns rest) noted
    unfolding levelled
    shape_on = ap (λ (p : Parsed (List Levels)). and_then p noted) (then_on (towers zs) e)
