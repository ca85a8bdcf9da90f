-- The normal entries of an archive: each stands at its place, and is read there.
use mathlib.Core.Path.{◌≡◌, refl, sym, ap, ap₂, ◌∙◌}
use mathlib.Core.List.Memᴰ
use mathlib.Core.List.{List, [], ◌∷◌, ◌++◌, map, flat_map, append_assoc}
use Prim.Native.Nat.{ℕ, zero, suc, ◌+◌, ◌*◌, ◌≤◌, ◌<◌}
use native.Mathlib.Nat.{zero-mul, suc-mul}
use native.Mathlib.Omega.{arith}
use lib.ListN.{length, get_or, drop, length-map, length-drop}
use lib.Seq.{drop-drop, drop_at}
use Rattle.lists.specs.Lists.{◌∈◌}
use Rattle.lists.proofs.Members.{at_in}
use Rattle.lists.proofs.Places.{map_at}
use Rattle.fields.specs.OpeningLaws.{starts_is, starts_length}
use Rattle.fields_walk.proofs.Lengths.{length-flat}
use Rattle.cube.specs.declared.Total.{Total}
use Rattle.cube.specs.Measure.{Row, sums as measure, codes_of}
use Rattle.cube.specs.Codes.{plain}
use Rattle.cube.specs.Cube.{filled}
use Rattle.cube.specs.Condensed.{normals, Base}
use Rattle.cube.specs.Bounds.{Summable}
use Rattle.rows.proofs.Rows.{row_within}
use Rattle.rows.proofs.Flat.{blank}
use Rattle.archive_entries.specs.Layout.{cell_bytes}
use Rattle.archive_entries.specs.Places.{row_there}
use Rattle.archive_entries.proofs.There.{cell_there}
use Rattle.archive_entries.proofs.Lengths.{cell-length}
use Rattle.archive_entries.proofs.Limits.{normals-wide}
use Rattle.rows_condense.specs.Shared.{normal_rows}
use Rattle.call_questions.specs.Questions.{NormalsAt}

-- ---- things of equal length, one behind the other

module _ {A : Type 0} (bytes : A → List ℕ) (width : ℕ) (a : A) where
  flat-place : (xs : List A) (k : ℕ) (end : List ℕ) → ((x : A) → x ∈ xs → length (bytes x) ≡ width) → k < length xs
      → (rest : List ℕ) × (drop (k * width) (flat_map bytes xs ++ end) ≡ bytes (get_or xs k a) ++ rest)
  unfolding flat_map
  flat-place [] k end h l = absurd (omega arith)
  flat-place (x ∷ xs) zero end h l = (flat_map bytes xs ++ end, rw zero-mul (append_assoc (bytes x) (flat_map bytes xs) end))
  flat-place (x ∷ xs) (suc k) end h l =
      let r = flat-place xs k end (λ y m. h y (Memᴰ.tail m)) (omega arith) in
      let e : suc k * width ≡ width + k * width = omega (arith, suc-mul k width) in (
        r.0,
        ap₂ (λ (n : ℕ) (m : List ℕ). drop n m) e (append_assoc (bytes x) (flat_map bytes xs) end)
            ∙ sym (drop-drop (k * width) width (bytes x ++ (flat_map bytes xs ++ end)))
            ∙ ap (drop (k * width)) (drop_at (bytes x) (flat_map bytes xs ++ end) width (h x (Memᴰ.head refl)))
            ∙ r.1,
      )

-- ---- the normal entries

module _ {s : List ℕ} {at n d : ℕ} {rows : List (Row Total)} (held : NormalsAt s at n d rows) where
  abbrev cells : List (List ℕ)
  cells = normals (plain d) (codes_of rows)

  abbrev fill : List ℕ → Row Total
  fill = filled (plain d) measure rows

  pub held-count : n ≡ length cells
  unfolding normal_rows
  held-count = held.count ∙ length-map cells fill

  module _ (b : Base (plain d) (codes_of rows)) (m : Summable rows) where
    long : (r : Row Total) → r ∈ map fill cells → length (cell_bytes r) ≡ 4 * d + 12
    long r i = cell-length d r (normals-wide d rows b m i).0.0

    -- all are within the bytes
    pub held-room : at + n * (4 * d + 12) ≤ length s
    unfolding normal_rows
    held-room =
        let e = length-flat cell_bytes (4 * d + 12) (map fill cells) long in
        let f = ap (λ (k : ℕ). k * (4 * d + 12)) held.count in
        omega (arith, held.within, starts_length (drop at s) (flat_map cell_bytes (map fill cells)) held.bytes, length-drop at s, e, f)

    -- entry k stands at its place
    module _ (k : ℕ) (h : k < n) where
      abbrev place : ℕ
      place = at + k * (4 * d + 12)

      pub held-within : place + (4 * d + 12) ≤ length s
      held-within = omega (arith, held-room, row_within (4 * d + 12) n k h)

      stands : (rest : List ℕ) × (drop place s ≡ cell_bytes (fill (get_or cells k [])) ++ rest)
      unfolding normal_rows
      stands =
          let rs = map fill cells in
          let p = flat-place cell_bytes (4 * d + 12) blank rs k (drop (length (flat_map cell_bytes rs)) (drop at s)) long (omega (arith, h, held.count)) in
          let q : get_or rs k blank ≡ fill (get_or cells k []) = map_at fill [] blank cells k (omega (arith, h, held-count)) in (
            p.0,
            sym (drop-drop (k * (4 * d + 12)) at s) ∙ ap (drop (k * (4 * d + 12))) (starts_is (drop at s) (flat_map cell_bytes rs) held.bytes)
                ∙ p.1 ∙ ap (λ (r : Row Total). cell_bytes r ++ p.0) q,
          )

      -- and is read there
      pub held_there : row_there s d place ≡ fill (get_or cells k [])
      held_there = cell_there s d (fill (get_or cells k []))
          (normals-wide d rows b m (Memᴰ.map fill (at_in [] cells k (omega (arith, h, held-count)))))
          place stands.0 (omega (arith, held-within)) stands.1
