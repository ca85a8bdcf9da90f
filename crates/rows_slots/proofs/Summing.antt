-- The groups of a slot totalled entry by entry, and what they are.
use mathlib.Core.Path.{◌≡◌, refl, sym, ap, subst, ◌∙◌}
use mathlib.Core.List.Memᴰ
use mathlib.Core.List.{List, [], ◌∷◌, ◌++◌, map, foldl}
use Prim.Native.Nat.{ℕ, zero, suc, ◌+◌, ◌≤◌, ◌<◌}
use native.Mathlib.Numerals.{add-one}
use native.Mathlib.Omega.{arith}
use lib.ListN.{length, get_or, drop, length-map, drop_of_length-le}
use lib.Seq.{drop-cons}
use Rattle.lists.specs.Lists.{◌∈◌}
use Rattle.lists.proofs.Places.{map_at}
use Rattle.rows_deals.specs.Deals.{Names}
use Rattle.cube.specs.declared.Total.{Total}
use Rattle.cube.specs.Measure.{Row, nothing, plus}
use Rattle.cube.specs.Bounds.{Summable, Bounded, most}
use Rattle.cube.proofs.Sums.{bounded_nothing}
use Rattle.rows_runs.specs.Runs.{Run, members}
use Rattle.rows_runs.specs.Totals.{amount_at, amounts_at, run_total}
use Rattle.rows_runs.proofs.Totals.{Room, room-nothing, room-one, room-plus}
use Rattle.rows_runs.proofs.Runs.{cell_of}
use Rattle.rows_slots.specs.Slots.{flat, pack, packed, row_in, end_in}
use Rattle.rows_slots.specs.Summed.{closed, plus_row, summed}
use Rattle.rows_slots.proofs.Rising.{Split}

module _ (totals : ℕ → Total) (keys : ℕ → List ℕ) (slot : List ℕ) where
  -- the rows of the entries from place i on
  abbrev pub rows_from : ℕ → List (Row Total)
  rows_from i = amounts_at totals (map row_in (drop i slot))

  pub adding_none : Summable (amounts_at totals (map row_in slot)) → Room nothing (rows_from 0)
  adding_none s = room-nothing s

  module _ (total : Total) (i : ℕ) (h : i < length slot) where
    abbrev e : ℕ
    e = get_or slot i 0

    -- the group that entry i is the last of, or goes on with
    abbrev group : Row Total
    group = record { codes = keys (row_in e); total = plus_row totals total (row_in e) }

    next : drop i slot ≡ e ∷ drop (i + 1) slot
    next = drop-cons slot i 0 h ∙ ap (λ (k : ℕ). e ∷ drop k slot) (sym (add-one i))

    step : summed totals keys total (drop i slot) ≡ closed (end_in e) group (summed totals keys nothing (drop (i + 1) slot)) (summed totals keys group.total (drop (i + 1) slot))
    step = ap (summed totals keys total) next

    -- the group goes on
    pub summed_on : end_in e ≡ 0 → summed totals keys total (drop i slot) ≡ summed totals keys group.total (drop (i + 1) slot)
    summed_on z = step ∙ ap (λ (k : ℕ). closed k group (summed totals keys nothing (drop (i + 1) slot)) (summed totals keys group.total (drop (i + 1) slot))) z

    -- the group ends
    pub summed_end : (end_in e ≡ 0 → ⊥) → summed totals keys total (drop i slot) ≡ group ∷ summed totals keys nothing (drop (i + 1) slot)
    summed_end n = step ∙ ends (end_in e) n
      where
        ends : (k : ℕ) → (k ≡ 0 → ⊥) → closed k group (summed totals keys nothing (drop (i + 1) slot)) (summed totals keys group.total (drop (i + 1) slot)) ≡ group ∷ summed totals keys nothing (drop (i + 1) slot)
        ends zero n = absurd (n refl)
        ends (suc k) n = refl

    module _ (room : Room total (rows_from i)) where
      room-here : Room total (amount_at totals (row_in e) ∷ rows_from (i + 1))
      unfolding amounts_at
      room-here = subst (λ (l : List ℕ). Room total (map (amount_at totals) (map row_in l))) next room

      -- the next row can be added
      pub adding_bounds : Bounded total × Bounded (amount_at totals (row_in e)).total × (total.count + (amount_at totals (row_in e)).total.count ≤ most)
      adding_bounds = room-one room-here

      -- and so can those behind it, in its group or in the next
      pub adding_on : Room group.total (rows_from (i + 1))
      adding_on = room-plus room-here

      pub adding_end : Room nothing (rows_from (i + 1))
      adding_end = record { own = bounded_nothing; each = (room-plus room-here).each; few = omega (arith, (room-plus room-here).few) }

  pub summed-none : (total : Total) (i : ℕ) → length slot ≤ i → summed totals keys total (drop i slot) ≡ []
  summed-none total i h = ap (summed totals keys total) (drop_of_length-le slot {i = i} h)

-- ---- the groups of a slot are its runs

module _ (totals : ℕ → Total) (keys : ℕ → List ℕ) where
  -- the running total over rows
  abbrev over : Total → List ℕ → Total
  over t l = foldl (λ t r. plus t r.total) t (amounts_at totals l)

  summed-pack : (t : Total) (x : ℕ) (m more : List ℕ) (c : List ℕ) → ((y : ℕ) → y ∈ x ∷ m → (y < 1024) × (keys y ≡ c))
      → summed totals keys t (pack x m ++ more) ≡ record { codes = c; total = over t (x ∷ m) } ∷ summed totals keys nothing more
  unfolding amounts_at
  summed-pack t x [] more c h =
      let k = h x (Memᴰ.head refl) in
      let r : row_in (x + 1024) ≡ x = omega (arith, k.0) in
      let e : end_in (x + 1024) ≡ 1 = omega (arith, k.0) in
      rw (e, r, k.1) refl
  summed-pack t x (y ∷ m) more c h =
      let k = h x (Memᴰ.head refl) in
      let r : row_in x ≡ x = omega (arith, k.0) in
      let e : end_in x ≡ 0 = omega (arith, k.0) in
      rw (e, r) (summed-pack (plus_row totals t x) y m more c (λ z i. h z (Memᴰ.tail i)))

  pub summed-runs : (rs : List Run) → Split keys rs → ((y : ℕ) → y ∈ flat rs → y < 1024)
      → summed totals keys nothing (packed rs) ≡ map (λ r. record { codes = cell_of keys r; total = run_total totals (members r) }) rs
  unfolding run_total
  summed-runs [] s b = refl
  summed-runs (r ∷ rs) s b =
      summed-pack nothing r.first r.more (packed rs) (cell_of keys r) (λ y i. (b y (Memᴰ.append_left (flat rs) i), s.0 y i))
      ∙ ap (λ (l : List (Row Total)). record { codes = cell_of keys r; total = run_total totals (members r) } ∷ l) (summed-runs rs s.2 (λ y i. b y (Memᴰ.append_right (members r) i)))

-- the row of an entry is one of the rows
pub entry_named : (slot : List ℕ) (n i : ℕ) → Names (map row_in slot) n → i < length slot → row_in (get_or slot i 0) < n
entry_named slot n i h k = subst (λ (z : ℕ). z < n) (map_at row_in 0 0 slot i k) (h i (rw length-map k))
