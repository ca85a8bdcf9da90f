-- Our base entries of rows in a flat list, by their places, and how many sets and bytes each has.
use mathlib.Core.Path.{◌≡◌, sym, ap, ap₂, ◌∙◌}
use mathlib.Core.List.{List, [], ◌∷◌, ◌++◌, map}
use Prim.Native.Nat.{ℕ, ◌+◌, ◌*◌, ◌^◌, ◌≤◌, ◌<◌}
use native.Mathlib.Numerals.{add-one}
use native.Mathlib.Omega.{arith}
use lib.ListN.{length, get_or, take, drop, length-map, drop_of_length-le, get_or-map}
use lib.Seq.{drop-cons, take-length}
use Rattle.lists.proofs.Places.{map_at, EachBelow}
use Rattle.fields.specs.Words.{words_bytes}
use Rattle.cube.specs.declared.Total.{Total}
use Rattle.cube.specs.Measure.{Row}
use Rattle.cube.specs.Codes.{plain}
use Rattle.cube.specs.Condensed.{listed}
use Rattle.rows.specs.Rows.{width, cut, row_at, rows_of}
use Rattle.rows.proofs.Rows.{cut-length, rows-codes, row-length}
use Rattle.rows.proofs.Flat.{words_of, placed, blank, rows-length, rows_at, row-front}
use Rattle.rows_lists.specs.Lists.{lists_of, our_lists}
use Rattle.rows_lists.proofs.Lists.{list_length}
use Rattle.archive_entries.specs.Layout.{base_bytes, sets_in, based}
use Rattle.archive_entries.proofs.Lengths.{base-length}
use Rattle.archive_cells.specs.ListBytes.{list_bytes, list_is}
use Rattle.archive_cells.proofs.Cells.{cell-words}
use Rattle.archive_bases.specs.Listed.{Listed, base_of, our_base, our_bases}

-- the words of a row and a list are the bytes of the base entry that they make
pub base-words : (d : ℕ) (ws l : List ℕ) → width d ≡ length ws → EachBelow (2 ^ 32) ws → words_bytes ws ++ list_bytes l ≡ base_bytes (base_of d ws l)
unfolding base_bytes
base-words d ws l e w =
    let row = cell-words d ws (omega (arith, e)) w ∙ ap words_bytes (ap (λ (k : ℕ). take k ws) e ∙ take-length ws) in
    ap₂ (λ (x y : List ℕ). x ++ y) (sym row) (list_is l)

module _ {d n : ℕ} {ws ls : List ℕ} (rows : Listed d n ws ls) where
  abbrev table : List (Row Total)
  table = rows_of d n ws

  module _ (i : ℕ) where
    codes_at_lem : row_at (cut d n ws) i ≡ (our_base d table i).row.codes
    unfolding our_base
    codes_at_lem = ap (λ (l : List (List ℕ)). row_at l i) (sym (rows-codes d n ws)) ∙ get_or-map (λ r. r.codes) table i blank

    row_placed : i < n → (our_base d table i).row ≡ placed d ws i
    unfolding our_base
    row_placed h = rows_at d n i ws h

    pub bases-none : n ≤ i → drop i (our_bases d table) ≡ []
    unfolding our_bases
    bases-none h = drop_of_length-le (map (based d table) table) {i = i} (rw (length-map, rows-length d n ws) h)

    module _ (h : i < n) where
      -- that of row i, and those behind it
      pub bases-next : drop i (our_bases d table) ≡ our_base d table i ∷ drop (i + 1) (our_bases d table)
      unfolding our_bases our_base
      bases-next =
          let k : i < length (map (based d table) table) = rw (length-map, rows-length d n ws) h in
          rw (add-one, drop-cons (map (based d table) table) i (based d table blank) k, get_or-map (based d table) table i blank)

      -- the list of a row in the flat list is its list in its base entry
      list_at : get_or (lists_of n ls) i [] ≡ (our_base d table i).list
      unfolding our_lists our_base
      list_at =
          let xs = cut d n ws in
          ap (λ (l : List (List ℕ)). get_or l i []) rows.lists
          ∙ map_at (listed (plain d) xs) [] [] xs i (rw (cut-length d n ws) h)
          ∙ ap₂ (λ (ys : List (List ℕ)) (x : List ℕ). listed (plain d) ys x) (sym (rows-codes d n ws)) codes_at_lem

      -- the words of a row and its list are its base entry
      pub base-made : base_of d (words_of d ws i) (get_or (lists_of n ls) i []) ≡ our_base d table i
      base-made = ap₂ (λ (r : Row Total) (l : List ℕ). record { row = r; list = l }) (row-front d (drop (i * width d) ws) ∙ sym (row_placed h)) list_at

      -- how many sets and bytes it has
      base-sets : length (our_base d table i).list ≡ get_or ls (i * 71) 0
      base-sets = ap length (sym list_at) ∙ list_length n i ls h rows.room rows.short

      pub base-bytes : length (base_bytes (our_base d table i)) ≡ 4 * d + 16 + 4 * get_or ls (i * 71) 0
      base-bytes =
          let e = base-length d (our_base d table i) (ap length (sym codes_at_lem) ∙ row-length d n i ws h rows.ready.size) in
          omega (arith, e, base-sets)

      pub sets-next : sets_in (drop i (our_bases d table)) ≡ get_or ls (i * 71) 0 + sets_in (drop (i + 1) (our_bases d table))
      sets-next = ap sets_in bases-next ∙ ap (λ (k : ℕ). k + sets_in (drop (i + 1) (our_bases d table))) base-sets

    pub sets-none : n ≤ i → sets_in (drop i (our_bases d table)) ≡ 0
    sets-none h = ap sets_in (bases-none h)
