-- The entries of table t, from its rows in a flat list.
use mathlib.Core.Path.{◌≡◌, refl, sym, ◌∙◌, ap, ap₂, subst}
use mathlib.Core.List.{List, [], ◌∷◌, map, flat_map}
use Prim.Native.Nat.{ℕ, ◌+◌, ◌*◌, ◌/◌, ◌^◌, ◌≤◌}
use native.Mathlib.Nat.{suc-mul, mul-le-mul, mul-div_cancel, mul-le-mul_right, le_trans}
use native.Mathlib.Omega.{arith}
use lib.ListN.{length, take, length-append, length-map}
use lib.Seq.{drop_at}
use lib.Pow.{pow_mono}
use Rattle.lists.specs.Lists.{keep, Distinct}
use Rattle.fields.specs.Written.{Wrote}
use Rattle.fields.specs.WrittenLaws.{wrote_front}
use Rattle.lists.proofs.Order.{by_codes}
use Rattle.lists.proofs.Sorted.{rising-distinct}
use Rattle.lists.specs.Order.{earlier}
use Rattle.lattice.specs.Sets.{sets}
use Rattle.lattice.proofs.Sets.{sets-length}
use Rattle.cube.specs.declared.Total.{Total}
use Rattle.cube.specs.Measure.{Row, sums as measure}
use Rattle.cube.specs.Codes.{Coded, plain}
use Rattle.cube.specs.Condensed.{normals, ours}
use Rattle.cube.specs.Table.{Table, folded}
use Rattle.cube.proofs.Sums.{sums-add}
use Rattle.cube.proofs.Codes.{plain_laws}
use Rattle.cube.proofs.Normals.{normals-most}
use Rattle.cube.proofs.Ours.{ours-length}
use Rattle.cube.proofs.Folded.{folded-same}
use Rattle.rows.specs.Rows.{width, cut, rows_of}
use Rattle.rows.proofs.Rows.{cut-length}
use Rattle.small_model.specs.Small.{up_to, bit_of, binary, row, codes_at, table}
use Rattle.small_model.specs.Tally.{entries}
use Rattle.small_model.proofs.Binary.{binary_digits, digits_coded}
use Rattle.small_model.proofs.Tables.{codes_in, codes-rising, codes-few, codes-rows, table_small}
use Rattle.small_tally.specs.Flat.{flat_row, flat_rows, Coding}
use Rattle.small_tally.proofs.Flat.{row-codes, row-length, row_read}

-- base rows have few normal entries
pub normals_fit : (d n : ℕ) (ws : List ℕ) → d ≤ 8 → n ≤ 8 → length (normals (plain d) (cut d n ws)) ≤ 2048
normals_fit d n ws h k =
    let m : length (sets d) * 8 ≤ 256 * 8 = mul-le-mul_right 8 (le_trans (sets-length d) (pow_mono h)) in
    omega (arith, normals-most (plain d) (plain_laws d) (cut d n ws) 8 (omega arith) (omega (arith, cut-length d n ws, k)), m)

-- rows as those of a small table, and how many entries they have
abbrev pub Tabled : ℕ → ℕ → List ℕ → Type 0
Tabled d n ws = (d ≤ 8) × (n ≤ 8) × Distinct (cut d n ws) × Coding d (cut d n ws)

abbrev pub entries_in : ℕ → ℕ → List ℕ → ℕ
entries_in d n ws = n + length (normals (plain d) (cut d n ws))

-- ---- the flat list cut into rows

cut-flat : (d : ℕ) (l : List ℕ) → cut d (length l) (flat_map (flat_row d) l) ≡ map (binary d) l
unfolding cut flat_map
cut-flat d [] = refl
cut-flat d (j ∷ l) =
    ap₂ (λ (x : List ℕ) (xs : List (List ℕ)). x ∷ xs) (row-codes d j (flat_map (flat_row d) l))
    (ap (cut d (length l)) (drop_at (flat_row d j) (flat_map (flat_row d) l) (width d) (row-length d j)) ∙ cut-flat d l)

rows-flat : (d : ℕ) (l : List ℕ) → rows_of d (length l) (flat_map (flat_row d) l) ≡ map row (map (binary d) l)
unfolding rows_of flat_map
rows-flat d [] = refl
rows-flat d (j ∷ l) =
    ap₂ (λ (r : Row Total) (rs : List (Row Total)). r ∷ rs) (row_read d j (flat_map (flat_row d) l))
    (ap (rows_of d (length l)) (drop_at (flat_row d j) (flat_map (flat_row d) l) (width d) (row-length d j)) ∙ rows-flat d l)

flat-size : (d : ℕ) (l : List ℕ) → length (flat_map (flat_row d) l) ≡ length l * width d
unfolding flat_map
flat-size d [] = omega arith
flat-size d (j ∷ l) = omega (arith, length-append (flat_row d j) (flat_map (flat_row d) l), row-length d j, flat-size d l, suc-mul (length l) (width d))

module _ (d t : ℕ) where
  pub rows-size : length (flat_rows d t) ≡ length (codes_at d t) * width d
  unfolding flat_rows codes_at
  rows-size = let l = keep (bit_of t) (up_to (2 ^ d)) in flat-size d l ∙ ap (λ (n : ℕ). n * width d) (sym (length-map l (binary d)))

  pub rows_cut : cut d (length (codes_at d t)) (flat_rows d t) ≡ codes_at d t
  unfolding flat_rows codes_at
  rows_cut = let l = keep (bit_of t) (up_to (2 ^ d)) in ap (λ (n : ℕ). cut d n (flat_map (flat_row d) l)) (length-map l (binary d)) ∙ cut-flat d l

  pub rows-table : rows_of d (length (codes_at d t)) (flat_rows d t) ≡ table d t
  unfolding flat_rows codes_at
  rows-table = let l = keep (bit_of t) (up_to (2 ^ d)) in ap (λ (n : ℕ). rows_of d n (flat_map (flat_row d) l)) (length-map l (binary d)) ∙ rows-flat d l

  -- ---- the entries

  table-coded : Table d (table d t)
  table-coded r m = digits_coded d r.codes ((table_small d t).sizes r m)

  table-folded : folded measure d (table d t) ≡ table d t
  table-folded = folded-same measure sums-add d (table d t) table-coded (table_small d t).rising

  pub table-entries : entries d (table d t) ≡ length (codes_at d t) + length (normals (plain d) (codes_at d t))
  unfolding entries
  table-entries =
      ap (λ (rows : List (Row Total)). length (ours (plain d) measure rows)) table-folded ∙ ours-length (plain d) measure (table d t)
      ∙ ap₂ (λ (k : ℕ) (xs : List (List ℕ)). k + length (normals (plain d) xs)) (length-map (codes_at d t) row) (codes-rows (codes_at d t))

  -- ---- of up to three dimensions

  module _ (few : d ≤ 3) where
    pub rows_few : length (codes_at d t) ≤ 8
    rows_few = le_trans (codes-few d t) (pow_mono few)

    pub rows-room : length (flat_rows d t) ≤ 48
    rows-room =
        let w : width d ≤ 6 = omega (arith, few) in
        let m : length (codes_at d t) * width d ≤ 8 * 6 = mul-le-mul rows_few w in
        omega (arith, rows-size, m)

  pub codes-distinct : Distinct (codes_at d t)
  codes-distinct = rising-distinct earlier by_codes (codes_at d t) (codes-rising d t)

  pub codes_coding : Coding d (codes_at d t)
  codes_coding x m = let j = codes_in d t m in subst (Coded d) j.3 (digits_coded d (binary d j.0) (binary_digits d j.0))

  -- ---- of what was written

  module _ {l m : List ℕ} {size : ℕ} (w : Wrote (flat_rows d t) l m size) where
    rows-here : size / width d ≡ length (codes_at d t)
    rows-here =
        let some : 1 ≤ width d = omega arith in
        ap (λ (n : ℕ). n / width d) (w.count ∙ rows-size) ∙ mul-div_cancel (length (codes_at d t)) some

    -- they are all of it
    pub rows-whole : size / width d * width d ≡ size
    rows-whole = ap (λ (n : ℕ). n * width d) rows-here ∙ sym (w.count ∙ rows-size)

    cut-here : cut d (size / width d) (take (size / width d * width d) m) ≡ codes_at d t
    cut-here = ap₂ (cut d) rows-here (ap (λ (k : ℕ). take k m) rows-whole ∙ wrote_front w) ∙ rows_cut

    -- its rows are those of the table
    pub made-table : rows_of d (size / width d) (take size m) ≡ table d t
    made-table = ap₂ (rows_of d) rows-here (wrote_front w) ∙ rows-table

    -- what the entries of its rows need
    pub made-rows : d ≤ 3 → Tabled d (size / width d) (take (size / width d * width d) m)
    made-rows few = (
      omega (arith, few),
      omega (arith, rows-here, rows_few few),
      subst Distinct (sym cut-here) codes-distinct,
      subst (Coding d) (sym cut-here) codes_coding,
    )

    pub made-entries : {r : ℕ} → r ≡ entries_in d (size / width d) (take (size / width d * width d) m) → r ≡ entries d (table d t)
    made-entries e = e ∙ ap₂ (λ (n : ℕ) (xs : List (List ℕ)). n + length (normals (plain d) xs)) rows-here cut-here ∙ sym table-entries
