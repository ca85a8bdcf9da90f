-- The front page: what demands 2 and 3 of the user say of rows, entries and cells, for tables of any number of dimensions and for any measure.
use mathlib.Core.Path.{◌≡◌, sym, ◌∙◌}
use mathlib.Core.Logic.{◌≢◌, ◌⊎◌, ◌↔◌}
use mathlib.Core.Bool.{true, false, not}
use mathlib.Core.Option.{some as just}
use mathlib.Core.List.{List, [], ◌∷◌, map, flat_map, Permᴰ}
use Prim.Native.Nat.{ℕ, ◌+◌, ◌≤◌}
use lib.Dec.{leb}
use lib.IntN.{ℤ}
use lib.ListN.{length, get_elem?, replicate}
use Rattle.lists.specs.Lists.{◌∈◌, every, keep}
use Rattle.lists.proofs.Members.{keep_in}
use Rattle.lists.specs.Order.{Rising, earlier}
use Rattle.lattice.specs.Sets.{before, full, sets, holds}
use Rattle.cube.specs.declared.Total.{Total}
use Rattle.cube.specs.declared.Figures.{Figures}
use Rattle.cube.specs.declared.Extremes.TheVariants.{Known}
use Rattle.cube.specs.Measure.{Measure, Adds, sums, Row, total_of, total_at, codes_of, carried}
use Rattle.cube.specs.Extremes.{given, is_known, figures}
use Rattle.cube.specs.Bounds.{can_make, suits, Makes}
use Rattle.cube.specs.Making.{Reading, Make, Span}
use Rattle.cube.specs.Codes.{ALL, Coded, cell, agree, falls, plain}
use Rattle.cube.specs.Cube.{within, blank, Exists, total, grouped, cells, complete, road}
use Rattle.cube.specs.Condensed.{Entry, normal as normal_entry, no_record, found, lookup, proper, single, listed, reach, normals, Base, own, stands, Condensed, ours, expansion}
use Rattle.cube.specs.Table.{Table, folded, listed_before}
use Rattle.cube.specs.Keys.{key, least_keys, fixes, dimension}
use Rattle.cube.proofs.Spans as spans
use Rattle.cube.proofs.Carrying as carrying
use Rattle.cube.proofs.Codes.{plain_laws}
use Rattle.cube.proofs.Empty as empties
use Rattle.cube.proofs.Complete as completes
use Rattle.cube.proofs.Rolling as rolling
use Rattle.cube.proofs.Folding as folding
use Rattle.cube.proofs.Singles as singles
use Rattle.cube.proofs.Smallest as smallests
use Rattle.cube.proofs.Reach as reaches
use Rattle.cube.proofs.Normals as normal
use Rattle.cube.proofs.Fewest as fewest
use Rattle.cube.proofs.Ours as our
use Rattle.cube.proofs.Questions as questions
use Rattle.cube.proofs.Expansion as expansions
use Rattle.cube.proofs.Antichain as antichains
use Rattle.cube.proofs.Reordering as reorderings
use Rattle.cube.proofs.Keys as keying
use Rattle.cube.proofs.Making as makings

-- ---- Demand 2: the complete cube, of a table's rows

module _ {A : Type 0} (M : Measure A) (adds : Adds M) (d : ℕ) (rows : List (Row A)) (t : Table d rows) where
  -- its base rows
  abbrev based : List (Row A)
  based = folded M d rows

  -- One cell for each group that has a record, with its exact total (and that of an empty table: below);
  pub complete-cells : (r : Row A) → (r ∈ complete (plain d) M rows) ↔ (Exists (plain d) (codes_of rows) r.codes × (r.total ≡ total (plain d) M rows r.codes))
  complete-cells = completes.complete_iff (plain d) (plain_laws d) M rows (folding.coded d rows t)

  -- each once, by the lattice order of their sets, then by codes.
  pub complete-order : Rising listed_before (complete (plain d) M rows)
  complete-order = completes.complete-rising M d rows t

  -- The base rows rise strictly by codes, have just the codes of the table, and each has the total of the table's rows with its codes.
  pub base-order : Rising earlier (codes_of based)
  base-order = folding.folded-rising M d rows t

  pub base-codes : (x : List ℕ) → (x ∈ codes_of based) ↔ (x ∈ codes_of rows)
  base-codes = folding.folded_in M d rows t

  pub base_totals : (r : Row A) → r ∈ based → r.total ≡ total_at M rows r.codes
  base_totals = folding.folded-total M d rows t

  pub base-rows : Base (plain d) (codes_of based)
  base-rows = folding.folded-base M d rows t

  -- The cube of the base rows is the cube of the table: the same cells, each with the same total.
  pub base-total : (c : List ℕ) → total (plain d) M based c ≡ total (plain d) M rows c
  base-total = folding.total-folded M d rows t (plain d) adds

  pub base_cube : complete (plain d) M based ≡ complete (plain d) M rows
  base_cube = folding.complete-folded M d rows t (plain d) adds

  -- Any condensed cube of the base rows, ours too, expands to the complete cube of the table.
  pub any_expands : {es : List (Entry A)} → Condensed (plain d) M based es → expansion (plain d) M es ≡ complete (plain d) M rows
  any_expands z = expansions.expansion-complete (plain d) (plain_laws d) M based base-rows z ∙ base_cube

  pub ours-expands : expansion (plain d) M (ours (plain d) M based) ≡ complete (plain d) M rows
  ours-expands = any_expands (our.ours_condensed (plain d) (plain_laws d) M adds based base-rows)

-- ---- C-11: rows in another order, repeated rows too

module _ {A : Type 0} (M : Measure A) (adds : Adds M) (d : ℕ) {rows others : List (Row A)} (o : Permᴰ rows others) where
  -- The running total is the same in whichever order the rows come; so are the base rows, our entries, and the complete cube.
  pub any_order-total : total_of M rows ≡ total_of M others
  any_order-total = reorderings.running_reordered M adds o

  pub any_order-base : folded M d rows ≡ folded M d others
  any_order-base = reorderings.folded_reordered o M adds d

  pub any_order-ours : ours (plain d) M (folded M d rows) ≡ ours (plain d) M (folded M d others)
  any_order-ours = reorderings.ours_reordered o M adds d

  pub any_order_cube : complete (plain d) M rows ≡ complete (plain d) M others
  any_order_cube = reorderings.complete_reordered o (plain d) M adds

-- ---- C-14: the empty table

module _ {A : Type 0} (M : Measure A) (d : ℕ) where
  -- all ALL, with the total of no rows
  abbrev empty-total : Row A
  empty-total = record { codes = replicate d ALL; total = M.none }

  -- An empty table has no base row and one cell, all ALL, with the total of no rows, held as one normal entry: asked for it, entry 0 answers.
  pub empty-base : folded M d [] ≡ []
  empty-base = folding.folded-none M d

  pub empty_cube : complete (plain d) M [] ≡ empty-total ∷ []
  empty_cube = empties.complete-none (plain d) (plain_laws d) M

  pub empty-entries : ours (plain d) M [] ≡ normal_entry empty-total ∷ []
  empty-entries = empties.ours-none (plain d) (plain_laws d) M

  pub empty-answer : lookup (plain d) (replicate d ALL) (ours (plain d) M []) ≡ found 0 M.none
  empty-answer = empties.lookup-none (plain d) (plain_laws d) M

  -- With a row, the complete cube is that of the groups, and every cell needs a row.
  pub cube_of_rows : (rows : List (Row A)) → 1 ≤ length rows → complete (plain d) M rows ≡ flat_map (grouped (plain d) M rows) (sets d)
  cube_of_rows = empties.complete-rows (plain d) M

  pub cell_of_rows : (r : Row A) (rows : List (Row A)) (c : List ℕ) → Exists (plain d) (codes_of (r ∷ rows)) c
      ↔ ((x : List ℕ) × (x ∈ codes_of (r ∷ rows)) × (falls c x ≡ true))
  cell_of_rows r rows = empties.exists_rows (plain d) r.codes (codes_of rows)

-- ---- C-21: totals by any road, of a table's rows or of base rows

module _ {A : Type 0} (M : Measure A) (adds : Adds M) (d : ℕ) (rows : List (Row A)) (t : Table d rows) {s : ℕ} (i : s ∈ sets d) (r : Row A) (m : r ∈ cells (plain d) M rows s) where
  -- For two sets, one inside the other, adding the listed cells of the larger that agree with a cell of the smaller gives that cell's total,
  pub any_road : {u : ℕ} → u ∈ sets d → holds d u s ≡ true → road (plain d) M rows u r.codes ≡ r.total
  any_road j h = rolling.rolled_up M adds d rows t i j h r m

  -- so two ways of adding up meet.
  pub two_roads : {u v : ℕ} → u ∈ sets d → v ∈ sets d → holds d u s ≡ true → holds d v s ≡ true → road (plain d) M rows u r.codes ≡ road (plain d) M rows v r.codes
  two_roads j k h l = any_road j h ∙ sym (any_road k l)

-- ---- Demands 2 and 3, of base rows

module _ {A : Type 0} (M : Measure A) (adds : Adds M) (d : ℕ) (rows : List (Row A)) (b : Base (plain d) (codes_of rows)) where
  -- our entries
  abbrev entries : List (Entry A)
  entries = ours (plain d) M rows

  -- Our normal cells are those in which two or more base rows fall, and that of an empty table: a row's cell of a set is one just if the row is not single on it.
  pub normal-cells : (c : List ℕ) → (c ∈ normals (plain d) (codes_of rows)) ↔ ((2 ≤ length (within (plain d) (codes_of rows) c)) ⊎ (c ∈ blank (plain d) (codes_of rows)))
  normal-cells = normal.normals_iff (plain d) (plain_laws d) (codes_of rows) b

  pub not_single : {s : ℕ} {x : List ℕ} → s ∈ sets d → x ∈ codes_of rows → leb 2 (length (within (plain d) (codes_of rows) (cell s x))) ≡ not (single (plain d) (codes_of rows) s x)
  not_single = normal.shared-single (plain d) (plain_laws d) (codes_of rows) b

  -- Ours is a condensed cube of the base rows.
  pub ours_condensed : Condensed (plain d) M rows entries
  ours_condensed = our.ours_condensed (plain d) (plain_laws d) M adds rows b

  -- A question gets 'no record' just if the cell does not exist: no base row falls in it, and it is not that of an empty table. Otherwise it gets the cell's total,
  -- and the number of an entry that stands for it,
  pub no_record_iff : (c : List ℕ) → (lookup (plain d) c entries ≡ no_record) ↔ (Exists (plain d) (codes_of rows) c → ⊥)
  no_record_iff = questions.lookup-none_iff (plain d) M rows ours_condensed

  pub answer : (c : List ℕ) → Exists (plain d) (codes_of rows) c
      → (n : ℕ) × (e : Entry A) × (get_elem? entries n ≡ just e) × (c ∈ stands (plain d) e) × (lookup (plain d) c entries ≡ found n (total (plain d) M rows c))
  answer = questions.lookup-found (plain d) M rows ours_condensed

  -- and no other entry does.
  pub one_entry : (c : List ℕ) {e f : Entry A} (m n : ℕ) → get_elem? entries m ≡ just e → get_elem? entries n ≡ just f
      → c ∈ stands (plain d) e → c ∈ stands (plain d) f → m ≡ n
  one_entry c = questions.one_entry (plain d) (plain_laws d) M adds rows b c

  -- That entry is the row's own where one base row falls in the cell, and otherwise the normal entry at the cell's place among the normal cells.
  pub row_answers : (c : List ℕ) {r : Row A} (n : ℕ) → get_elem? rows n ≡ just r → within (plain d) (codes_of rows) c ≡ r.codes ∷ [] → lookup (plain d) c entries ≡ found n r.total
  row_answers c = questions.lookup-row (plain d) (plain_laws d) M adds rows b c

  pub normal_answers : (c : List ℕ) (n : ℕ) → get_elem? (normals (plain d) (codes_of rows)) n ≡ just c → lookup (plain d) c entries ≡ found (length rows + n) (total (plain d) M rows c)
  normal_answers c = questions.lookup-normal (plain d) (plain_laws d) M adds rows b c

  -- Every condensed cube of the base rows has at least as many entries as ours, and as many exactly when its entries lie at the cells of ours, one at each.
  pub fewest_entries : {es : List (Entry A)} → Condensed (plain d) M rows es → length entries ≤ length es
  fewest_entries = fewest.fewest_entries (plain d) (plain_laws d) M rows b

  pub as_few : {es : List (Entry A)} → Condensed (plain d) M rows es
      → (length es ≡ length entries) ↔ Permᴰ (map (own (plain d)) es) (map (own (plain d)) entries)
  as_few = fewest.fewest_same (plain d) (plain_laws d) M rows b

-- ---- Demand 3, of our list of a row: x are its codes, xs those of all base rows

module _ (d : ℕ) (xs : List (List ℕ)) (x : List ℕ) where
  -- our list
  abbrev list : List ℕ
  list = listed (plain d) xs x

  -- A row single on a set is single on every set that holds it.
  pub single_upwards : (s t : ℕ) → Coded d x → holds d s t ≡ true → single (plain d) xs t x ≡ true → single (plain d) xs s x ≡ true
  single_upwards s t = singles.single_up (plain d) (plain_laws d) xs s t x

  -- Our list has just the smallest sets, other than the full set, on which the row is single.
  pub smallest-sets : (s : ℕ) → (s ∈ list) ↔ ((s ∈ proper (plain d)) × (single (plain d) xs s x ≡ true)
      × ((t : ℕ) → t ∈ proper (plain d) → single (plain d) xs t x ≡ true → holds d s t ≡ true → t ≡ s))
  smallest-sets = smallests.listed_iff (plain d) (plain_laws d) xs x

  -- Any list of sets that stands for the same cells has at least as many sets.
  pub shortest_list : Coded d x → (l : List ℕ) → ((s : ℕ) → s ∈ l → s ∈ sets d)
      → ((c : List ℕ) → (c ∈ reach (plain d) x list) ↔ (c ∈ reach (plain d) x l)) → length list ≤ length l
  shortest_list = reaches.shortest_list (plain d) (plain_laws d) xs x

  -- Up to 8 dimensions it has at most 70 sets.
  pub at-most_70 : d ≤ 8 → length list ≤ 70
  at-most_70 h = antichains.listed-short d h xs x

-- ---- Keys (document 02, C-12), of base rows with codes xs

module _ (d : ℕ) (xs : List (List ℕ)) (b : Base (plain d) xs) where
  -- A key is a set on which no two base rows agree; a set fixes another where base rows that agree on it agree on the other too.
  pub key_iff : (s : ℕ) → (key (plain d) xs s ≡ true) ↔ ((x y : List ℕ) → x ∈ xs → y ∈ xs → x ≢ y → agree s x y ≡ false)
  key_iff = keying.key_iff (plain d) xs

  pub fixes_iff : (s t : ℕ) → (fixes (plain d) xs s t ≡ true) ↔ ((x y : List ℕ) → x ∈ xs → y ∈ xs → agree s x y ≡ true → agree t x y ≡ true)
  fixes_iff = keying.fixes_iff (plain d) xs

  -- The listed keys are just those that hold no other key, in lattice order.
  pub smallest-keys : (s : ℕ) → (s ∈ least_keys (plain d) xs) ↔ ((s ∈ sets d) × (key (plain d) xs s ≡ true) × ((t : ℕ) → t ∈ sets d → key (plain d) xs t ≡ true → holds d s t ≡ true → t ≡ s))
  smallest-keys = keying.least_keys_iff (plain d) (plain_laws d) xs

  pub keys-order : Rising before (least_keys (plain d) xs)
  keys-order = keying.least_keys-rising d xs

  -- A set is a key just if it holds a listed one, and just if it fixes every dimension.
  pub key-holds : {s : ℕ} → s ∈ sets d → (key (plain d) xs s ≡ true) ↔ ((m : ℕ) × (m ∈ least_keys (plain d) xs) × (holds d s m ≡ true))
  key-holds = keying.key-holds (plain d) (plain_laws d) xs b.valid

  pub key-fixes : (s : ℕ) → (key (plain d) xs s ≡ true) ↔ ((i : ℕ) → 1 ≤ i → i ≤ d → fixes (plain d) xs s (dimension i) ≡ true)
  key-fixes = keying.key-fixes d xs b.valid

  -- A set fixes each of its own dimensions, and the full set is a key.
  pub fixes-own : (s t : ℕ) → holds d s t ≡ true → fixes (plain d) xs s t ≡ true
  fixes-own = keying.fixes-held (plain d) (plain_laws d) xs b.valid

  pub full-key : key (plain d) xs (full d) ≡ true
  full-key = keying.finest-key (plain d) (plain_laws d) xs b.valid

  -- With no base row or one, the empty set is the only smallest key.
  pub keys_of_few : length xs ≤ 1 → least_keys (plain d) xs ≡ 0 ∷ []
  keys_of_few = keying.least_keys-few d xs

  -- Up to 8 dimensions at most 70 are listed.
  pub keys-at-most_70 : d ≤ 8 → length (least_keys (plain d) xs) ≤ 70
  keys-at-most_70 = keying.least_keys-short d xs

-- ---- C-17: least and greatest reading

-- All of the above holds for the larger record: sum, count and extremes are a measure.
pub figures-add : Adds figures
figures-add = spans.figures-add

-- A cell in which base rows fall has known extremes just if all these rows have.
pub cell_known : (d : ℕ) (rows : List (Row Figures)) (c : List ℕ) → ((r : Row Figures) → r ∈ rows → given r.total.extremes ≡ true)
    → 1 ≤ length (keep (λ r. falls c r.codes) rows)
    → is_known (total (plain d) figures rows c).extremes ≡ every (λ r. is_known r.total.extremes) (keep (λ r. falls c r.codes) rows)
unfolding total
cell_known d rows c g n = spans.known_rows (keep (λ r. falls c r.codes) rows) n (λ r m. g r (keep_in (λ r. falls c r.codes) rows m).0)

-- The sums and counts of the larger record are those of the smaller: the same entries with the same lists, each with its sum and count.
pub sums_of_figures : (d : ℕ) (rows : List (Row Figures))
    → map (carrying.entried (λ f. f.sums)) (ours (plain d) figures rows) ≡ ours (plain d) sums (map (carried (λ f. f.sums)) rows)
sums_of_figures d rows = carrying.ours-carried (λ f. f.sums) spans.sums_carry (plain d) rows

-- ---- Stops 8 and 19: what readings can make

module _ (t : Total) where
  -- A sum passes just if there are so many readings that make it;
  pub sum-made : (can_make t.count t.sum ≡ true) ↔ ((zs : List ℤ) × Make zs t)
  sum-made = makings.can_make_iff t

  -- a least and a greatest reading pass just if there are so many readings that make it and have these for their least and greatest.
  pub extremes_made : (l g : ℤ) → 1 ≤ t.count → Reading l → Reading g → (suits t l g ≡ true) ↔ ((zs : List ℤ) × Make zs t × Span zs l g)
  extremes_made = makings.suits_iff t

  -- So figures with known extremes are made by readings (`Makes`) just if there are such readings.
  pub figures-made : (l g : ℤ) → Makes (record { sums = t; extremes = Known l g }) ↔ ((zs : List ℤ) × Make zs t × Span zs l g)
  figures-made = makings.makes_iff t
