-- The generator's tables are all the small tables, each once.
use mathlib.Core.Path.{◌≡◌, refl, sym, ◌∙◌, ap, ap₂, subst}
use mathlib.Core.Logic.{◌≢◌}
use mathlib.Core.Bool.{Bool, true, false≢true}
use mathlib.Core.List.Memᴰ
use mathlib.Core.List.{List, [], ◌∷◌, map}
use Prim.Native.Nat.{ℕ, ◌^◌, ◌≤◌, ◌<◌}
use native.Mathlib.Omega.{arith}
use lib.ListN.{length, length-map}
use Rattle.lists.specs.Lists.{◌∈◌, some, keep, Distinct}
use Rattle.lists.specs.Order.{Rising, earlier, same}
use Rattle.lists.proofs.Tests.{cases, truth, refuted, some_in, some_of}
use Rattle.lists.proofs.Members.{keep_in, keep_of, keep-length}
use Rattle.lists.proofs.Pairwise.{pairwise_imp, pairwise_keep, pairwise_map}
use Rattle.lists.proofs.Order.{by_codes, same-eq, same_refl}
use Rattle.lists.proofs.Sorted.{rising_unique}
use Rattle.cube.specs.declared.Total.{Total}
use Rattle.cube.specs.Measure.{Row, codes_of}
use Rattle.small_model.specs.Small.{up_to, bit_of, binary, one, row, codes_at, table, tables, Digits, Small}
use Rattle.small_model.proofs.Numbers.{up_to_in, up_to_of, from-rising, from-length, bits_same, number_of, number-low, number_bit}
use Rattle.small_model.proofs.Binary.{binary_digits, binary-earlier, binary-same, binary_of}

-- ---- the codes of table t

pub codes_in : (d t : ℕ) {x : List ℕ} → x ∈ codes_at d t → (j : ℕ) × (j < 2 ^ d) × (bit_of t j ≡ true) × (binary d j ≡ x)
unfolding codes_at
codes_in d t m =
    let r = Memᴰ.of_map (binary d) (keep (bit_of t) (up_to (2 ^ d))) m in
    let k = keep_in (bit_of t) (up_to (2 ^ d)) r.1 in
    (r.0, up_to_in k.0, k.1, r.2)

pub codes-of : (d t j : ℕ) → j < 2 ^ d → bit_of t j ≡ true → binary d j ∈ codes_at d t
unfolding codes_at
codes-of d t j h e = Memᴰ.map (binary d) (keep_of (bit_of t) (up_to_of h) e)

pub codes-rising : (d t : ℕ) → Rising earlier (codes_at d t)
unfolding codes_at
codes-rising d t =
    let l : List ℕ = keep (bit_of t) (up_to (2 ^ d)) in
    pairwise_map (λ x y. earlier x y ≡ true) (binary d) l
    (pairwise_imp ◌<◌ (λ j k. earlier (binary d j) (binary d k) ≡ true) l
    (λ j k m n h. binary-earlier d j k h (up_to_in (keep_in (bit_of t) (up_to (2 ^ d)) n).0))
    (pairwise_keep ◌<◌ (bit_of t) (up_to (2 ^ d)) (from-rising 0 (2 ^ d))))

pub codes-few : (d t : ℕ) → length (codes_at d t) ≤ 2 ^ d
unfolding codes_at
codes-few d t =
    let l : List ℕ = keep (bit_of t) (up_to (2 ^ d)) in
    omega (arith, length-map l (binary d), keep-length (bit_of t) (up_to (2 ^ d)), from-length 0 (2 ^ d))

-- ---- rows with one reading, 1, are known by their codes

pub codes-rows : (xs : List (List ℕ)) → codes_of (map row xs) ≡ xs
codes-rows [] = refl
codes-rows (x ∷ xs) = ap (λ (l : List (List ℕ)). x ∷ l) (codes-rows xs)

rows-codes : (rows : List (Row Total)) → ((r : Row Total) → r ∈ rows → r.total ≡ one) → map row (codes_of rows) ≡ rows
rows-codes [] h = refl
rows-codes (r ∷ rows) h =
    ap₂ (λ (t : Total) (l : List (Row Total)). record { codes = r.codes; total = t } ∷ l) (sym (h r (Memᴰ.head refl))) (rows-codes rows (λ q m. h q (Memᴰ.tail m)))

-- ---- each table is small

pub table_small : (d t : ℕ) → Small d (table d t)
table_small d t = record {
  sizes = λ r m.
      let q = Memᴰ.of_map row (codes_at d t) m in
      let j = codes_in d t q.1 in
      subst (λ (s : Row Total). Digits d s.codes) q.2 (subst (Digits d) j.3 (binary_digits d j.0));
  readings = λ r m. let q = Memᴰ.of_map row (codes_at d t) m in ap (λ (s : Row Total). s.total) (sym q.2);
  rising = rw (codes-rows (codes_at d t)) (codes-rising d t);
}

-- ---- each small table is one of them: bit j is set where j in binary is among the codes

module _ (d : ℕ) (rows : List (Row Total)) (s : Small d rows) where
  abbrev among : ℕ → Bool
  among j = some (same (binary d j)) (codes_of rows)

  abbrev number : ℕ
  number = number_of among (2 ^ d)

  number_in : (x : List ℕ) → x ∈ codes_at d number → x ∈ codes_of rows
  number_in x m =
      let j = codes_in d number m in
      let r = some_in (same (binary d j.0)) (codes_of rows) (sym (number_bit among (2 ^ d) j.0 j.1) ∙ j.2) in
      Memᴰ.cast (sym j.3 ∙ same-eq (binary d j.0) r.0 r.2) r.1

  number-of : (x : List ℕ) → x ∈ codes_of rows → x ∈ codes_at d number
  number-of x m =
      let r = Memᴰ.of_map (λ q. q.codes) rows m in
      let j = binary_of d x (subst (Digits d) r.2 (s.sizes r.0 r.1)) in
      let e : among j.0 ≡ true = some_of (same (binary d j.0)) m (rw j.2 (same_refl x)) in
      Memᴰ.cast (sym j.2) (codes-of d number j.0 j.1 (number_bit among (2 ^ d) j.0 j.1 ∙ e))

  pub small_table : table d number ≡ rows
  small_table =
      ap (map row) (rising_unique earlier by_codes (codes_at d number) (codes_of rows) (codes-rising d number) s.rising number_in number-of)
      ∙ rows-codes rows s.readings

  pub small_in : rows ∈ tables d
  unfolding tables
  small_in = Memᴰ.cast (sym small_table) (Memᴰ.map (table d) (up_to_of (number-low among (2 ^ d))))

pub tables_in : (d : ℕ) {rows : List (Row Total)} → rows ∈ tables d → Small d rows
unfolding tables
tables_in d m = let r = Memᴰ.of_map (table d) (up_to (2 ^ 2 ^ d)) m in subst (Small d) r.2 (table_small d r.0)

-- ---- each once

bit_kept : (d t u j : ℕ) → codes_at d t ≡ codes_at d u → j < 2 ^ d → bit_of t j ≡ true → bit_of u j ≡ true
bit_kept d t u j e h b =
    let r = codes_in d u (subst (λ (l : List (List ℕ)). binary d j ∈ l) e (codes-of d t j h b)) in
    subst (λ (k : ℕ). bit_of u k ≡ true) (binary-same d r.0 j r.1 h r.3) r.2

pub table_same : (d t u : ℕ) → t < 2 ^ 2 ^ d → u < 2 ^ 2 ^ d → table d t ≡ table d u → t ≡ u
table_same d t u h k e =
    let c : codes_at d t ≡ codes_at d u = sym (codes-rows (codes_at d t)) ∙ ap codes_of e ∙ codes-rows (codes_at d u) in
    bits_same (2 ^ d) t u h k (λ j l. cases (truth (bit_of t j))
    (λ b. b ∙ sym (bit_kept d t u j c l b))
    (λ b. b ∙ sym (refuted (λ a. false≢true (sym b ∙ bit_kept d u t j (sym c) l a)))))

pub tables-distinct : (d : ℕ) → Distinct (tables d)
unfolding tables
tables-distinct d =
    let l : List ℕ = up_to (2 ^ 2 ^ d) in
    pairwise_map ◌≢◌ (table d) l
    (pairwise_imp ◌<◌ (λ t u. table d t ≢ table d u) l
    (λ t u m n h e. omega (arith, h, table_same d t u (up_to_in m) (up_to_in n) e))
    (from-rising 0 (2 ^ 2 ^ d)))

pub tables-length : (d : ℕ) → length (tables d) ≡ 2 ^ 2 ^ d
unfolding tables
tables-length d = length-map (up_to (2 ^ 2 ^ d)) (table d) ∙ from-length 0 (2 ^ 2 ^ d)
