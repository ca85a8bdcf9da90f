-- C-15: two accepted archives into one, and many.
use mathlib.Core.Path.{◌≡◌}
use mathlib.Core.Logic.{◌≢◌, ◌⊎◌, ◌↔◌}
use mathlib.Core.Bool.{true}
use mathlib.Core.List.{List, [], ◌++◌, flat_map, Permᴰ}
use Prim.Native.Nat.{ℕ, ◌+◌}
use lib.ListN.{length}
use Rattle.lists.specs.Lists.{◌∈◌}
use Rattle.fields_walk.specs.Parsed.{got}
use Rattle.fields_walk.specs.Limits.{Bytes}
use Rattle.cube.specs.declared.Total.{Total}
use Rattle.cube.specs.Measure.{plus, sums, Row, total_at, codes_of}
use Rattle.cube.specs.Bounds.{count_of}
use Rattle.cube.specs.Codes.{falls, plain}
use Rattle.cube.specs.Cube.{blank, Exists, total, complete}
use Rattle.cube.specs.Table.{folded}
use Rattle.cube.proofs.Sums.{sums-add}
use Rattle.rows_merge.specs.United.{united, merged}
use Rattle.rows_merge.proofs.United as uniting
use Rattle.table.specs.Layout.{Records}
use Rattle.table.specs.Reading.{read_table}
use Rattle.archive_entries.specs.Layout.{Held, Limits, required}
use Rattle.archive_entries.specs.Reading.{read_archive, rows_in}
use Rattle.call_answers.specs.Answers.{stop, bytes}
use Rattle.call_answers.specs.Calls.{dims, builds}
use Rattle.call_answers.specs.Joins.{filed, joins, doubled}
use Rattle.call_answers.specs.Joining.{Plan, parts, joined_by, in_turn, ArchiveOf, TableOf, bases_at, records_at}
use Rattle.call_answers.proofs.Joins as joining
use Rattle.call_answers.proofs.Joining as many

-- A result has two accepted archives.
pub join-both : (s t : List ℕ) {x : List ℕ} → Bytes s → Bytes t → joins s t ≡ bytes x → (a : Held) × (b : Held) × (read_archive s ≡ got a []) × (read_archive t ≡ got b [])
join-both = joining.joins-both

module _ (s t : List ℕ) (a b : Held) (f : Bytes s) (g : Bytes t) (e : read_archive s ≡ got a []) (h : read_archive t ≡ got b []) where
  -- both lists of base rows, folded
  abbrev rows : List (Row Total)
  rows = united sums (dims a) (rows_in a) (rows_in b)

  -- Where the dimensions and sizes are the same, the call gives the archive of both lists of base rows, folded, unless 18 stops it;
  pub join-filed : a.sizes ≡ b.sizes → joins s t ≡ filed a.sizes rows
  join-filed = joining.joins-filed s t a b f g e h

  -- where they are not, 17.
  pub join_apart : a.sizes ≢ b.sizes → joins s t ≡ stop 17
  join_apart = joining.joins-apart s t a b f g e h

  -- What is not stopped is within all limits, and accepted: read back, it holds what these rows require.
  module _ {x : List ℕ} (k : joins s t ≡ bytes x) where
    pub join-limits : Limits a.sizes rows
    join-limits = joining.joined-limits s t a b f g e h k

    pub join_accepted : read_archive x ≡ got (required a.sizes rows) []
    join_accepted = joining.joined_accepted s t a b f g e h k

  module _ (z : a.sizes ≡ b.sizes) where
    -- The rows have just the codes of both, and as many readings as both.
    pub join-codes : (x : List ℕ) → (x ∈ codes_of rows) ↔ ((x ∈ codes_of (rows_in a)) ⊎ (x ∈ codes_of (rows_in b)))
    join-codes = uniting.united_in sums (dims a) (rows_in a) (rows_in b) (joining.first-table s t a b f g e h) (joining.second-table s t a b f g e h z)

    pub join-readings : count_of rows ≡ count_of (rows_in a) + count_of (rows_in b)
    join-readings = joining.joined-readings s t a b f g e h z

    -- A cell exists just if a row of either archive falls in it (or neither has a row, and it is that of an empty table), and has the sums and counts of both;
    pub join_exists : (c : List ℕ) → Exists (plain (dims a)) (codes_of rows) c
        ↔ (((x : List ℕ) × (x ∈ codes_of (rows_in a)) × (falls c x ≡ true)) ⊎ (((x : List ℕ) × (x ∈ codes_of (rows_in b)) × (falls c x ≡ true)) ⊎ (c ∈ blank (plain (dims a)) (codes_of (rows_in a) ++ codes_of (rows_in b)))))
    join_exists = uniting.united_exists sums (dims a) (rows_in a) (rows_in b) (joining.first-table s t a b f g e h) (joining.second-table s t a b f g e h z) (plain (dims a))

    pub join-total : (c : List ℕ) → total (plain (dims a)) sums rows c ≡ plus (total (plain (dims a)) sums (rows_in a) c) (total (plain (dims a)) sums (rows_in b) c)
    join-total = uniting.united-total sums (dims a) sums-add (rows_in a) (rows_in b) (joining.first-table s t a b f g e h) (joining.second-table s t a b f g e h z) (plain (dims a))

    -- so its complete cube is the two cubes added.
    pub join_cubes : (c : List ℕ) → total_at sums (complete (plain (dims a)) sums rows) c ≡ total_at sums (complete (plain (dims a)) sums (rows_in a) ++ complete (plain (dims a)) sums (rows_in b)) c
    join_cubes = uniting.united_cubes sums sums-add (dims a) (rows_in a) (rows_in b) (joining.first-table s t a b f g e h) (joining.second-table s t a b f g e h z)

    -- One pass over both lists finds the rows.
    pub join-merged : rows ≡ merged sums (rows_in a) (rows_in b)
    join-merged = joining.joined-merged s t a b f g e h z

    -- An archive without rows leaves the other's bytes.
    pub join-none : rows_in b ≡ [] → joins s t ≡ bytes s
    join-none = joining.joins-none_right s t a b f g e h z

    pub none-join : rows_in a ≡ [] → joins s t ≡ bytes t
    none-join = joining.joins-none-left s t a b f g e h z

  -- Which comes first does not matter,
  pub join_turned : joins s t ≡ joins t s
  join_turned = joining.joins_turned s t a b f g e h

  -- nor which two of three are joined first.
  pub join-grouped : (u : List ℕ) (c : Held) → Bytes u → read_archive u ≡ got c [] → {x y : List ℕ} → joins s t ≡ bytes x → joins t u ≡ bytes y → joins x u ≡ joins s y
  join-grouped u c i k = joining.joins-grouped s t u a b c f g i e h k

-- Joined with itself, unless 18 stops it, an archive keeps its sizes, codes, cells and lists, and doubles every sum and count.
pub join_self : (s : List ℕ) (a : Held) → Bytes s → read_archive s ≡ got a [] → {x : List ℕ} → joins s s ≡ bytes x → read_archive x ≡ got (doubled a) []
join_self = joining.joins_self

-- The archives of two tables joined are the archive of one table with the rows of both.
pub join-tables : (p q r : List ℕ) (t u v : Records) → Bytes p → Bytes q → Bytes r → read_table p ≡ got t [] → read_table q ≡ got u [] → read_table r ≡ got v []
    → t.sizes ≡ v.sizes → u.sizes ≡ v.sizes → v.rows ≡ t.rows ++ u.rows → {x y : List ℕ} → builds p ≡ bytes x → builds q ≡ bytes y → joins x y ≡ builds r
join-tables = joining.joins_built

-- ---- many archives, two at a time

module _ (zs : List ℕ) (p : Plan (List ℕ)) (h : (s : List ℕ) → s ∈ parts p → ArchiveOf zs s) where
  -- However many archives of the same dimensions and sizes are joined, and two at a time in whichever way, they give the archive of all their base rows, folded, or 18 where these are too many,
  pub join-many : joined_by bytes p ≡ filed zs (folded sums (length zs) (flat_map bases_at (parts p)))
  join-many = many.joins-many zs p h

  -- and the same in any other way and any other order.
  pub join_any : (q : Plan (List ℕ)) → Permᴰ (parts p) (parts q) → joined_by bytes p ≡ joined_by bytes q
  join_any = many.joins_any zs p h

-- One after the other is such a way.
pub join_in_turn : {A : Type 0} (p : Plan A) (xs : List A) → parts (in_turn p xs) ≡ parts p ++ xs
join_in_turn = many.parts-turn

module _ (zs : List ℕ) (p : Plan (List ℕ)) (h : (s : List ℕ) → s ∈ parts p → TableOf zs s) where
  -- However many tables of the same sizes, each built, and their archives joined in whichever way, give the archive of all their rows, folded, or 18 where the base rows are too many:
  pub build-many : joined_by builds p ≡ filed zs (folded sums (length zs) (flat_map records_at (parts p)))
  build-many = many.builds-many zs p h

  -- records in any order, cut into tables in any way, give the archive of these records.
  pub build_any : (rows : List (Row Total)) → Permᴰ rows (flat_map records_at (parts p)) → joined_by builds p ≡ filed zs (folded sums (length zs) rows)
  build_any = many.builds_any zs p h
