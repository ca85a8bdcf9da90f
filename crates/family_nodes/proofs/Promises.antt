-- What is promised of the cube over nodes, for any number of dimensions and of levels, and any total that adds up.
use mathlib.Core.Path.{◌≡◌, ◌∙◌}
use mathlib.Core.Logic.{◌≢◌, ◌⊎◌, ◌↔◌}
use mathlib.Core.Bool.{true}
use mathlib.Core.Option.{some as just}
use mathlib.Core.List.{List, [], ◌∷◌, map, Permᴰ}
use Prim.Native.Nat.{ℕ, ◌+◌, ◌-◌, ◌≤◌, ◌<◌}
use lib.ListN.{length, get_elem?, replicate}
use Rattle.lists.specs.Lists.{◌∈◌, keep, below}
use Rattle.lists.specs.Order.{Rising}
use Rattle.fields_walk.specs.Limits.{Below}
use Rattle.cube.specs.Measure.{Measure, Adds, Row, codes_of}
use Rattle.cube.specs.Codes.{ALL, Coded, plain}
use Rattle.cube.specs.Cube.{within, blank, Exists, total, complete}
use Rattle.cube.specs.Condensed.{Entry, normal as normal_entry, no_record, found as found_at, lookup, proper, single, listed, reach, normals, Base, own, stands, Condensed, ours, expansion}
use Rattle.cube.specs.Table.{Table, folded}
use Rattle.cube.proofs.Empty as empties
use Rattle.cube.proofs.Complete as completes
use Rattle.cube.proofs.Folding as folding
use Rattle.cube.proofs.Singles as singles
use Rattle.cube.proofs.Smallest as smallests
use Rattle.cube.proofs.Reach as reaches
use Rattle.cube.proofs.Normals as normal
use Rattle.cube.proofs.Fewest as fewest
use Rattle.cube.proofs.Ours as our
use Rattle.cube.proofs.Questions as questions
use Rattle.cube.proofs.Expansion as expansions
use Rattle.family_nodes.specs.Nodes.{node_count, number_of, levels_of, finer}
use Rattle.family_nodes.specs.Families.{Levels, heights, coarse, families, listed_by_node}
use Rattle.family_nodes.specs.Coarser.{ending}
use Rattle.family_nodes.specs.Flat.{flat, turned, fronted, with_node}
use Rattle.family_nodes.proofs.Nodes as nodes
use Rattle.family_nodes.proofs.Laws.{some-levels, coarse-finest, coarse-top, families-laws}
use Rattle.family_nodes.proofs.Ordered as ordered
use Rattle.family_nodes.proofs.Coarser as found
use Rattle.family_nodes.proofs.Flat as flats

-- ---- Numbers of nodes

module _ (ts : List Levels) where
  -- Every number below the product of the level counts with ALL is that of its levels,
  pub number-of-levels : (n : ℕ) → n < node_count (heights ts) → Below (heights ts) (levels_of (heights ts) n) × (number_of (heights ts) (levels_of (heights ts) n) ≡ n)
  number-of-levels n h = (nodes.levels-below (heights ts) n (some-levels ts), nodes.number-levels (heights ts) n (some-levels ts) h)

  -- and levels, one of each dimension, are those of their number, which is below the product.
  pub levels-of-number : (ls : List ℕ) → Below (heights ts) ls → (number_of (heights ts) ls < node_count (heights ts)) × (levels_of (heights ts) (number_of (heights ts) ls) ≡ ls)
  levels-of-number ls b = (nodes.number_lt (heights ts) ls b, nodes.levels-number (heights ts) ls b)

  -- Node 0 has the codes themselves, the highest number ALL everywhere.
  pub finest-codes : (x : List ℕ) → Coded (length ts) x → coarse ts 0 x ≡ x
  finest-codes = coarse-finest ts

  pub top-codes : (x : List ℕ) → Coded (length ts) x → coarse ts (node_count (heights ts) - 1) x ≡ replicate (length ts) ALL
  top-codes = coarse-top ts

-- ---- The complete cube of a table's rows

module _ (ts : List Levels) {A : Type 0} (M : Measure A) (E : Adds M) (rows : List (Row A)) (t : Table (length ts) rows) where
  abbrev based : List (Row A)
  based = folded M (length ts) rows

  pub base-rows : Base (families ts) (codes_of based)
  base-rows = let b = folding.folded-base M (length ts) rows t in record { valid = b.valid; distinct = b.distinct }

  -- One cell for each group that has a record, with its exact total (and that of an empty table), each once, by falling node, then by codes.
  pub complete-cells : (r : Row A) → (r ∈ complete (families ts) M rows) ↔ (Exists (families ts) (codes_of rows) r.codes × (r.total ≡ total (families ts) M rows r.codes))
  complete-cells = completes.complete_iff (families ts) (families-laws ts) M rows (folding.coded (length ts) rows t)

  pub complete-order : Rising listed_by_node (complete (families ts) M rows)
  complete-order = ordered.complete-rising ts M rows t

  -- The cube of the base rows is the cube of the table, and any condensed cube of them, ours too, expands to it.
  pub base_cube : complete (families ts) M based ≡ complete (families ts) M rows
  base_cube = folding.complete-folded M (length ts) rows t (families ts) E

  pub any_expands : {es : List (Entry A)} → Condensed (families ts) M based es → expansion (families ts) M es ≡ complete (families ts) M rows
  any_expands z = expansions.expansion-complete (families ts) (families-laws ts) M based base-rows z ∙ base_cube

  pub ours-expands : expansion (families ts) M (ours (families ts) M based) ≡ complete (families ts) M rows
  ours-expands = any_expands (our.ours_condensed (families ts) (families-laws ts) M E based base-rows)

-- ---- The empty table: the total of nothing at the node of the highest number

module _ (ts : List Levels) {A : Type 0} (M : Measure A) where
  abbrev empty-total : Row A
  empty-total = record { codes = (node_count (heights ts) - 1) ∷ replicate (length ts) ALL; total = M.none }

  pub empty_cube : complete (families ts) M [] ≡ empty-total ∷ []
  empty_cube = empties.complete-none (families ts) (families-laws ts) M

  pub empty-entries : ours (families ts) M [] ≡ normal_entry empty-total ∷ []
  empty-entries = empties.ours-none (families ts) (families-laws ts) M

-- ---- Our condensed cube of base rows

module _ (ts : List Levels) {A : Type 0} (M : Measure A) (E : Adds M) (rows : List (Row A)) (b : Base (families ts) (codes_of rows)) where
  abbrev entries : List (Entry A)
  entries = ours (families ts) M rows

  pub normal-cells : (c : List ℕ) → (c ∈ normals (families ts) (codes_of rows))
      ↔ ((2 ≤ length (within (families ts) (codes_of rows) c)) ⊎ (c ∈ blank (families ts) (codes_of rows)))
  normal-cells = normal.normals_iff (families ts) (families-laws ts) (codes_of rows) b

  pub ours_condensed : Condensed (families ts) M rows entries
  ours_condensed = our.ours_condensed (families ts) (families-laws ts) M E rows b

  -- A question gets 'no record' just if the cell does not exist, and otherwise its total and the number of the one entry that stands for it.
  pub no_record_iff : (c : List ℕ) → (lookup (families ts) c entries ≡ no_record) ↔ (Exists (families ts) (codes_of rows) c → ⊥)
  no_record_iff = questions.lookup-none_iff (families ts) M rows ours_condensed

  pub answer : (c : List ℕ) → Exists (families ts) (codes_of rows) c
      → (n : ℕ) × (e : Entry A) × (get_elem? entries n ≡ just e) × (c ∈ stands (families ts) e) × (lookup (families ts) c entries ≡ found_at n (total (families ts) M rows c))
  answer = questions.lookup-found (families ts) M rows ours_condensed

  pub one_entry : (c : List ℕ) {e f : Entry A} (m n : ℕ) → get_elem? entries m ≡ just e → get_elem? entries n ≡ just f
      → c ∈ stands (families ts) e → c ∈ stands (families ts) f → m ≡ n
  one_entry c = questions.one_entry (families ts) (families-laws ts) M E rows b c

  pub row_answers : (c : List ℕ) {r : Row A} (n : ℕ) → get_elem? rows n ≡ just r → within (families ts) (codes_of rows) c ≡ r.codes ∷ []
      → lookup (families ts) c entries ≡ found_at n r.total
  row_answers c = questions.lookup-row (families ts) (families-laws ts) M E rows b c

  pub normal_answers : (c : List ℕ) (n : ℕ) → get_elem? (normals (families ts) (codes_of rows)) n ≡ just c
      → lookup (families ts) c entries ≡ found_at (length rows + n) (total (families ts) M rows c)
  normal_answers c = questions.lookup-normal (families ts) (families-laws ts) M E rows b c

  -- Every condensed cube has at least as many entries, and as many exactly when its entries lie at the cells of ours, one at each.
  pub fewest_entries : {es : List (Entry A)} → Condensed (families ts) M rows es → length entries ≤ length es
  fewest_entries = fewest.fewest_entries (families ts) (families-laws ts) M rows b

  pub as_few : {es : List (Entry A)} → Condensed (families ts) M rows es
      → (length es ≡ length entries) ↔ Permᴰ (map (own (families ts)) es) (map (own (families ts)) entries)
  as_few = fewest.fewest_same (families ts) (families-laws ts) M rows b

-- ---- Our list of a row

module _ (ts : List Levels) (xs : List (List ℕ)) (x : List ℕ) where
  abbrev list : List ℕ
  list = listed (families ts) xs x

  -- A row single on a node is single on every finer one.
  pub single-finer : (m n : ℕ) → Coded (length ts) x → finer (heights ts) m n ≡ true → single (families ts) xs n x ≡ true → single (families ts) xs m x ≡ true
  single-finer m n = singles.single_up (families ts) (families-laws ts) xs m n x

  -- Our list has just the coarsest nodes, other than node 0, on which the row is single.
  pub coarsest-nodes : (n : ℕ) → (n ∈ list) ↔ ((n ∈ proper (families ts)) × (single (families ts) xs n x ≡ true)
      × ((m : ℕ) → m ∈ proper (families ts) → single (families ts) xs m x ≡ true → finer (heights ts) n m ≡ true → m ≡ n))
  coarsest-nodes = smallests.listed_iff (families ts) (families-laws ts) xs x

  pub never_zero : {n : ℕ} → n ∈ list → n ≢ 0
  never_zero = ordered.listed_above ts xs x

  -- Any list of nodes that stands for the same cells has at least as many nodes.
  pub shortest_list : Coded (length ts) x → (l : List ℕ) → ((n : ℕ) → n ∈ l → n ∈ below (node_count (heights ts)))
      → ((c : List ℕ) → (c ∈ reach (families ts) x list) ↔ (c ∈ reach (families ts) x l)) → length list ≤ length l
  shortest_list = reaches.shortest_list (families ts) (families-laws ts) xs x

  -- It is shorter than there are nodes.
  pub list-short : length list < node_count (heights ts)
  list-short = ordered.listed-few ts xs x

-- ---- How the code finds it: by falling number, with no look at what was listed before

module _ (ts : List Levels) (xs : List (List ℕ)) (x : List ℕ) (k : Coded (length ts) x) where
  -- The list has just the nodes on which the row is single, and on none one level coarser.
  pub list_is : listed (families ts) xs x ≡ keep (λ n. ending ts xs n x) (proper (families ts))
  list_is = found.listed-is ts xs x k

-- ---- One level everywhere: the plain archive

module _ (d : ℕ) where
  -- The complete cube has the same cells with the same totals, each with its node in front;
  pub flat-cube : {A : Type 0} (M : Measure A) (rows : List (Row A)) → Table d rows → Permᴰ (complete (families (flat d)) M rows) (map (with_node d) (complete (plain d) M rows))
  flat-cube = flats.complete-flat d

  -- so are the normal cells, and the lists are those of the sets turned round.
  pub flat-normals : (xs : List (List ℕ)) → Base (plain d) xs → Permᴰ (normals (families (flat d)) xs) (map (fronted d) (normals (plain d) xs))
  flat-normals = flats.normals-flat d

  pub flat-lists : (xs : List (List ℕ)) → ((x : List ℕ) → x ∈ xs → Coded d x) → (x : List ℕ) → Coded d x
      → Permᴰ (listed (families (flat d)) xs x) (map (turned d) (listed (plain d) xs x))
  flat-lists = flats.listed-flat d

pub one-level : (ts : List Levels) → ((t : Levels) → t ∈ ts → t ≡ []) → ts ≡ flat (length ts)
one-level = flats.one-level
