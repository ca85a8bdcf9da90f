-- The bytes of an accepted table with its rows' bytes in another order are accepted, and hold its rows in that order.
use mathlib.Core.Path.{◌≡◌, sym, ap, ap₂, ◌∙◌}
use mathlib.Core.List.Permᴰ
use mathlib.Core.List.{List, [], ◌++◌, map, flat_map, append_assoc, Permᴰ}
use Prim.Native.Nat.{ℕ, ◌+◌, ◌*◌}
use native.Mathlib.Omega.{arith}
use lib.ListN.{length, length-append}
use Rattle.lists.specs.Lists.{◌∈◌, joined}
use Rattle.lists.proofs.Parts.{front_same, back-same, joined-map, parts_same}
use Rattle.lists.proofs.Permutations.{perm_back, perm_map}
use Rattle.lists.proofs.Pigeonhole.{perm_length}
use Rattle.fields.specs.Words.{word_bytes}
use Rattle.fields_check.specs.Check.{check_of}
use Rattle.fields_walk.specs.Parsed.{got}
use Rattle.fields_walk.specs.Limits.{Bytes}
use Rattle.fields_walk.proofs.Lengths.{length-below}
use Rattle.cube.specs.declared.Total.{Total}
use Rattle.cube.specs.Measure.{Row}
use Rattle.table.specs.Layout.{Records, row_bytes, table_bytes, TableLimits}
use Rattle.table.specs.Reading.{read_table}
use Rattle.table.specs.Rearranged.{Rearranged}
use Rattle.table.proofs.Accepted.{table-back, table_forth}
use Rattle.table.proofs.Reordering.{front, body, length_front, body-front, row_words, check_reordered, reordered, limits_reordered}

-- a table's bytes: what stands before the rows, the rows, the check word
table-parts : (t : Records) → table_bytes t ≡ front t.sizes (length t.rows) ++ (flat_map row_bytes t.rows ++ word_bytes (check_of (body t.sizes t.rows)))
unfolding table_bytes
table-parts t =
    let w = word_bytes (check_of (body t.sizes t.rows)) in
    ap (λ (l : List ℕ). l ++ w) (body-front t.sizes t.rows) ∙ append_assoc (front t.sizes (length t.rows)) (flat_map row_bytes t.rows) w

module _ (s u : List ℕ) (t : Records) (b : Bytes s) (e : read_table s ≡ got t []) (r : Rearranged (length t.sizes) s u) where
  abbrev zs : List ℕ
  zs = t.sizes

  abbrev n : ℕ
  n = length t.rows

  abbrev w : List ℕ
  w = word_bytes (check_of (body zs t.rows))

  pub limits : TableLimits t
  limits = (table_forth s t [] b e).0

  both_ways : r.front ++ (joined r.rows ++ r.last) ≡ front zs n ++ (flat_map row_bytes t.rows ++ w)
  both_ways = sym r.first ∙ (table_forth s t [] b e).1 ∙ table-parts t

  front_length : length r.front ≡ length (front zs n)
  front_length = omega (arith, r.header, length_front zs n)

  fronts : r.front ≡ front zs n
  fronts = front_same r.front (front zs n) (joined r.rows ++ r.last) (flat_map row_bytes t.rows ++ w) both_ways front_length

  backs : joined r.rows ++ r.last ≡ flat_map row_bytes t.rows ++ w
  backs = back-same r.front (front zs n) (joined r.rows ++ r.last) (flat_map row_bytes t.rows ++ w) both_ways front_length

  rows-length : length (joined r.rows) ≡ length (flat_map row_bytes t.rows)
  rows-length = omega (arith, ap length backs, length-append (joined r.rows) r.last, length-append (flat_map row_bytes t.rows) w, r.check)

  lasts : r.last ≡ w
  lasts = back-same (joined r.rows) (flat_map row_bytes t.rows) r.last w backs rows-length

  row-length : (q : Row Total) → q ∈ t.rows → length (row_bytes q) ≡ 4 * length zs + 4
  row-length q m = omega (arith, row_words q, length-below zs q.codes (limits.each q m).below)

  rows_are : r.rows ≡ map row_bytes t.rows
  rows_are = parts_same row_bytes (4 * length zs + 4) (omega arith) r.rows t.rows r.each row-length
      (front_same (joined r.rows) (flat_map row_bytes t.rows) r.last w backs rows-length)

  -- the rows in that order
  pub found : (ys : List (Row Total)) × (r.others ≡ map row_bytes ys) × Permᴰ t.rows ys
  found = perm_map row_bytes r.order t.rows rows_are

  -- they are the bytes of the table in that order
  pub rearranged_bytes : u ≡ table_bytes (reordered t found.0)
  rearranged_bytes =
      let ys = found.0 in
      r.second
      ∙ ap₂ (λ (p q : List ℕ). p ++ q) (fronts ∙ ap (front zs) (perm_length found.2))
      (ap₂ (λ (p q : List ℕ). p ++ q) (ap joined found.1 ∙ joined-map row_bytes ys) (lasts ∙ ap word_bytes (check_reordered zs found.2)))
      ∙ sym (table-parts (reordered t ys))

  -- The bytes are accepted: they hold the same rows, in that order.
  pub rearranged_accepted : (ys : List (Row Total)) × Permᴰ t.rows ys × (read_table u ≡ got (reordered t ys) [])
  rearranged_accepted = (found.0, found.2, ap read_table rearranged_bytes ∙ table-back (reordered t found.0) (limits_reordered t limits found.2))

-- Rearranging back.
pub rearranged_back : {d : ℕ} {s u : List ℕ} → Rearranged d s u → Rearranged d u s
rearranged_back r = record {
  front = r.front;
  rows = r.others;
  others = r.rows;
  last = r.last;
  first = r.second;
  second = r.first;
  order = Permᴰ.symm r.order;
  header = r.header;
  each = λ q m. r.each q (perm_back r.order m);
  check = r.check;
}
