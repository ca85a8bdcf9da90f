-- The rows that are left out at a set, and how many groups a slot has: those of the rows that are not single.
use mathlib.Core.Path.{◌≡◌, refl, sym, ap, subst, ◌∙◌}
use mathlib.Core.Logic.{◌≢◌, ◌⊎◌, inl, inr}
use mathlib.Core.Bool.{Bool, true, false, not}
use mathlib.Core.List.Memᴰ
use mathlib.Core.List.{List, [], ◌∷◌, ◌++◌}
use Prim.Native.Nat.{ℕ, zero, suc, ◌+◌, ◌*◌, ◌≤◌, ◌<◌}
use native.Mathlib.Omega.{arith}
use lib.Dec.{leb}
use lib.ListN.{length, length-map}
use borrow.Author.Tests.{not-true}
use Rattle.lists.specs.Lists.{◌∈◌, keep, Distinct}
use Rattle.lists.proofs.Tests.{cases, truth, both, both_of}
use Rattle.lists.proofs.Members.{keep_in, keep_of, at_in}
use Rattle.lists.proofs.Pairwise.{pairwise_keep}
use Rattle.lists.proofs.Order.{same-eq}
use Rattle.lattice.specs.Sets.{sets}
use Rattle.cube.specs.Codes.{plain}
use Rattle.cube.specs.Cube.{within}
use Rattle.cube.specs.Condensed.{single, shared, Base}
use Rattle.cube.proofs.Codes.{plain_laws}
use Rattle.cube.proofs.Normals.{shared-single}
use Rattle.rows.specs.Rows.{width, cut, row_at}
use Rattle.rows.proofs.Rows.{cut-length}
use Rattle.rows_order.specs.Index.{key, arranged, Indexed}
use Rattle.rows_runs.specs.Runs.{Run, members, runs}
use Rattle.rows_order.proofs.Arranged.{alike, arranged_ordered, arranged_in, arranged_of, arranged-distinct, arranged-length}
use Rattle.rows_runs.proofs.Runs.{cell_of, runs-whole}
use Rattle.rows_runs.proofs.Indexed.{indexed_length, indexed_shared}
use Rattle.rows_slots.specs.Slots.{flat, large, crowds, shares, parted, loners, lone_rows, pack, packed}
use Rattle.rows_slots.proofs.Groups.{flat-runs, shares-large}
use Rattle.rows_slots.proofs.Rising.{flat_in}
use Rattle.rows_slots.proofs.Entries.{crowds-below}
use Rattle.rows_crowds.specs.Crowds.{shorter, left_out, ends}

-- ---- the rows that are left out

module _ (least : ℕ) (xs : List (List ℕ)) (n : ℕ) where
  -- row x shares its cell under s
  abbrev sharing : ℕ → ℕ → Bool
  sharing s x = shares least (key s xs) n x

  pub left_in : (s x : ℕ) → x ∈ left_out least xs n s → (x < n) × (sharing s x ≡ false) × (1 ≤ s → sharing (shorter s) x ≡ true)
  unfolding left_out loners lone_rows
  left_in zero x m =
      let r = keep_in (λ x. not (sharing 0 x)) (arranged (key 0 xs) n) m in
      (arranged_in (key 0 xs) n r.0, not-true (sharing 0 x) r.1, λ h. absurd (omega (arith, h)))
  left_in (suc s) x m =
      let r = keep_in (parted least (key (shorter (suc s)) xs) (key (suc s) xs) n) (arranged (key (suc s) xs) n) m in
      let t = both (sharing (shorter (suc s)) x) (not (sharing (suc s) x)) r.1 in
      (arranged_in (key (suc s) xs) n r.0, not-true (sharing (suc s) x) t.1, λ h. t.0)

  pub left-of : (s x : ℕ) → x < n → sharing s x ≡ false → (x ∈ left_out least xs n s) ⊎ ((1 ≤ s) × (sharing (shorter s) x ≡ false))
  unfolding left_out loners lone_rows
  left-of zero x h e = inl (keep_of (λ x. not (sharing 0 x)) (arranged_of (key 0 xs) n h) (ap not e))
  left-of (suc s) x h e = cases (truth (sharing (shorter (suc s)) x))
      (λ t. inl (keep_of (parted least (key (shorter (suc s)) xs) (key (suc s) xs) n) (arranged_of (key (suc s) xs) n h) (both_of t (ap not e))))
      (λ t. inr (omega arith, t))

  pub left-distinct : (s : ℕ) → Distinct (left_out least xs n s)
  unfolding left_out loners lone_rows
  left-distinct zero = pairwise_keep (λ x y. x ≢ y) (λ x. not (sharing 0 x)) (arranged (key 0 xs) n) (arranged-distinct (key 0 xs) n)
  left-distinct (suc s) = pairwise_keep (λ x y. x ≢ y) (parted least (key (shorter (suc s)) xs) (key (suc s) xs) n) (arranged (key (suc s) xs) n) (arranged-distinct (key (suc s) xs) n)

-- ---- groups counted

ends-append : (l m : List ℕ) → ends (l ++ m) ≡ ends l + ends m
ends-append [] m = omega arith
ends-append (e ∷ l) m = omega (arith, ends-append l m)

ends-pack : (x : ℕ) (m : List ℕ) → ((y : ℕ) → y ∈ x ∷ m → y < 1024) → ends (pack x m) ≡ 1
ends-pack x [] h = omega (arith, h x (Memᴰ.head refl))
ends-pack x (y ∷ m) h = omega (arith, h x (Memᴰ.head refl), ends-pack y m (λ z i. h z (Memᴰ.tail i)))

pub ends-packed : (rs : List Run) → ((y : ℕ) → y ∈ flat rs → y < 1024) → ends (packed rs) ≡ length rs
ends-packed [] h = refl
ends-packed (r ∷ rs) h =
    omega (
      arith,
      ends-append (pack r.first r.more) (packed rs),
      ends-pack r.first r.more (λ y i. h y (Memᴰ.append_left (flat rs) i)),
      ends-packed rs (λ y i. h y (Memᴰ.append_right (members r) i)),
    )

module _ (d n s : ℕ) (ws : List ℕ) (size : n * width d ≡ length ws) (few : n ≤ 1024) (b : Base (plain d) (cut d n ws)) where
  abbrev rows : List (List ℕ)
  rows = cut d n ws

  abbrev keys : ℕ → List ℕ
  keys = key s (cut d n ws)

  index : Indexed n d s ws (arranged keys n)
  index = record { size = size; places = arranged-length keys n; order = refl }

  -- as many as there are shared cells
  pub ends-shared : ends (packed (crowds 2 keys n)) ≡ length (shared (plain d) rows s)
  unfolding crowds
  ends-shared =
      ends-packed (crowds 2 keys n) (λ y m. omega (arith, crowds-below keys n 2 few y m, few))
      ∙ sym (length-map (keep (large 2) (runs keys (arranged keys n))) (cell_of keys))
      ∙ ap length (indexed_shared index b.valid)

  -- a row shares its cell unless it is single
  pub shares-single : (x : ℕ) → x < n → s ∈ sets d → shares 2 keys n x ≡ not (single (plain d) rows s (row_at rows x))
  unfolding key
  shares-single x h node =
      let l = arranged keys n in
      let m : x ∈ flat (runs keys l) = subst (λ (z : List ℕ). x ∈ z) (sym (flat-runs keys l)) (arranged_of keys n h) in
      let r = flat_in (runs keys l) m in
      let i = subst (λ (z : List ℕ). x ∈ z) (runs-whole keys l (arranged_ordered keys n) r.1) r.2 in
      let e : cell_of keys r.0 ≡ keys x = same-eq (cell_of keys r.0) (keys x) (keep_in (alike keys (cell_of keys r.0)) l i).1 in
      shares-large keys n 2 r.0 r.1 x r.2
      ∙ ap (leb 2) (indexed_length index r.1 b.valid)
      ∙ ap (λ (c : List ℕ). leb 2 (length (within (plain d) rows c))) e
      ∙ shared-single (plain d) (plain_laws d) rows b node (at_in [] rows x (rw cut-length h))
