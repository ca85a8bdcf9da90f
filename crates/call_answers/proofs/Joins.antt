-- Two archives into one, from their bytes: the result is an archive; with itself it has every total twice, with one without rows it keeps its bytes, and neither order nor grouping matters.
use mathlib.Core.Path.{◌≡◌, refl, sym, ap, ap₂, subst, ◌∙◌}
use mathlib.Core.Logic.{◌≢◌}
use mathlib.Core.Bool.{true, false, false≢true}
use mathlib.Core.List.{List, [], ◌++◌, map, map-map}
use Prim.Native.Nat.{ℕ, ◌+◌}
use lib.ListN.{length}
use Rattle.lists.specs.Order.{same}
use Rattle.lists.proofs.Tests.{cases, truth, refuted}
use Rattle.lists.proofs.Members.{map_same}
use Rattle.lists.proofs.Order.{same-eq, same_refl}
use Rattle.fields_walk.specs.Parsed.{Parsed, stop as halt, got}
use Rattle.fields_walk.specs.Limits.{Bytes}
use Rattle.cube.specs.declared.Total.{Total}
use Rattle.cube.specs.Measure.{sums, Row, codes_of}
use Rattle.cube.specs.Bounds.{count_of}
use Rattle.cube.specs.Codes.{plain}
use Rattle.cube.specs.Cube.{filled}
use Rattle.cube.specs.Condensed.{listed, normals}
use Rattle.cube.specs.Table.{Table, folded}
use Rattle.cube.proofs.Sums.{sums-add}
use Rattle.rows_merge.specs.United.{as_one, united, merged}
use Rattle.rows_merge.proofs.Merging.{united-merged}
use Rattle.rows_merge.proofs.United.{united-count, united_comm, united_assoc, united-folded, united-none-left, united-none_right, united_self, codes_double, total_double}
use Rattle.table.specs.Layout.{Records, TableLimits}
use Rattle.table.specs.Reading.{read_table, base_rows}
use Rattle.table.proofs.Accepted.{table_forth}
use Rattle.archive_entries.specs.Layout.{Based, based, Held, Limits, required, archive_bytes}
use Rattle.archive_entries.specs.Reading.{rows_in, read_archive}
use Rattle.archive_entries.proofs.Limits.{limits-table}
use Rattle.archive_entries.proofs.Accepted.{required-rows, required-sizes, archive_back, archive_forth}
use Rattle.call_answers.specs.Answers.{stop, bytes}
use Rattle.call_answers.specs.Calls.{outcome, builds, dims}
use Rattle.call_answers.proofs.Answers.{passed}
use Rattle.call_answers.proofs.Folded.{table-rows, folded-within}
use Rattle.call_answers.specs.Joins.{few, filed, unites, joins, doubled}
use Rattle.call_answers.proofs.Limits.{limits-united, filed-limits}

-- what two accepted archives give
joins-read : (s t : List ℕ) {a b : Held} → read_archive s ≡ got a [] → read_archive t ≡ got b [] → joins s t ≡ unites a b
unfolding joins
joins-read s t e h = rw (e, h)

unites-same : (a b : Held) → a.sizes ≡ b.sizes → unites a b ≡ filed a.sizes (united sums (dims a) (rows_in a) (rows_in b))
unites-same a b z = let e : same a.sizes b.sizes ≡ true = rw (← z) (same_refl a.sizes) in rw e

module _ (a b : Held) {x : List ℕ} (e : unites a b ≡ bytes x) where
  abbrev rows : List (Row Total)
  rows = united sums (dims a) (rows_in a) (rows_in b)

  alike : (same a.sizes b.sizes ≡ true) × (filed a.sizes rows ≡ bytes x)
  alike = passed (same a.sizes b.sizes) 17 (filed a.sizes rows) e

  united-sizes : a.sizes ≡ b.sizes
  united-sizes = same-eq a.sizes b.sizes alike.0

  united-few : few rows ≡ true
  united-few = (passed (few rows) 18 (bytes (archive_bytes a.sizes rows)) alike.1).0

  united-bytes : archive_bytes a.sizes rows ≡ x
  united-bytes = let f = (passed (few rows) 18 (bytes (archive_bytes a.sizes rows)) alike.1).1 in cc

-- ---- two archives

module _ (s t : List ℕ) (a b : Held) (f : Bytes s) (g : Bytes t) (e : read_archive s ≡ got a []) (h : read_archive t ≡ got b []) where
  first : Limits a.sizes (rows_in a)
  first = (archive_forth s a [] f e).0

  pub first-table : Table (dims a) (rows_in a)
  first-table = limits-table a.sizes (rows_in a) first

  -- Other dimensions or sizes are refused.
  pub joins-apart : a.sizes ≢ b.sizes → joins s t ≡ stop 17
  joins-apart n = let k : same a.sizes b.sizes ≡ false = refuted (λ q. n (same-eq a.sizes b.sizes q)) in joins-read s t e h ∙ rw k

  module _ (z : a.sizes ≡ b.sizes) where
    second : Limits a.sizes (rows_in b)
    second = subst (λ (zs : List ℕ). Limits zs (rows_in b)) (sym z) (archive_forth t b [] g h).0

    pub second-table : Table (dims a) (rows_in b)
    second-table = limits-table a.sizes (rows_in b) second

    pub joined-readings : count_of (united sums (dims a) (rows_in a) (rows_in b)) ≡ count_of (rows_in a) + count_of (rows_in b)
    joined-readings = united-count (dims a) (rows_in a) (rows_in b) first-table second-table first.rising second.rising

    pub joined-merged : united sums (dims a) (rows_in a) (rows_in b) ≡ merged sums (rows_in a) (rows_in b)
    joined-merged = united-merged sums sums-add (dims a) (rows_in a) (rows_in b) first-table second-table first.rising second.rising

    -- The result is the archive of both lists of base rows, folded, where these are not too many.
    pub joins-filed : joins s t ≡ filed a.sizes (united sums (dims a) (rows_in a) (rows_in b))
    joins-filed = joins-read s t e h ∙ unites-same a b z

    -- Joining an archive without rows leaves the other's bytes.
    pub joins-none_right : rows_in b ≡ [] → joins s t ≡ bytes s
    joins-none_right n =
        joins-filed
        ∙ ap (filed a.sizes) (ap (united sums (dims a) (rows_in a)) n ∙ united-none_right sums (dims a) sums-add (rows_in a) first-table first.rising)
        ∙ filed-limits a.sizes (rows_in a) first ∙ ap bytes (sym (archive_forth s a [] f e).1)

    pub joins-none-left : rows_in a ≡ [] → joins s t ≡ bytes t
    joins-none-left n =
        joins-filed
        ∙ ap (filed a.sizes) (ap (λ (l : List (Row Total)). united sums (dims a) l (rows_in b)) n ∙ united-none-left sums (dims a) sums-add (rows_in b) second-table second.rising)
        ∙ filed-limits a.sizes (rows_in b) second ∙ ap (λ (zs : List ℕ). bytes (archive_bytes zs (rows_in b))) z ∙ ap bytes (sym (archive_forth t b [] g h).1)

  -- It is accepted: sizes and base rows are within the limits, and read back it holds what they require.
  module _ {x : List ℕ} (k : joins s t ≡ bytes x) where
    of_both : unites a b ≡ bytes x
    of_both = sym (joins-read s t e h) ∙ k

    joined-sizes : a.sizes ≡ b.sizes
    joined-sizes = united-sizes a b of_both

    pub joined_bytes : archive_bytes a.sizes (united sums (dims a) (rows_in a) (rows_in b)) ≡ x
    joined_bytes = united-bytes a b of_both

    pub joined-limits : Limits a.sizes (united sums (dims a) (rows_in a) (rows_in b))
    joined-limits = limits-united a.sizes (rows_in a) (rows_in b) first (second joined-sizes) (united-few a b of_both)

    pub joined_accepted : read_archive x ≡ got (required a.sizes (united sums (dims a) (rows_in a) (rows_in b))) []
    joined_accepted = ap read_archive (sym joined_bytes) ∙ archive_back a.sizes (united sums (dims a) (rows_in a) (rows_in b)) joined-limits

-- What is not refused was accepted, both of it.
pub joins-both : (s t : List ℕ) {x : List ℕ} → Bytes s → Bytes t → joins s t ≡ bytes x → (a : Held) × (b : Held) × (read_archive s ≡ got a []) × (read_archive t ≡ got b [])
unfolding joins
joins-both s t {x} f g = go (read_archive s) (read_archive t) refl refl
  where
    go : (p q : Parsed Held) → read_archive s ≡ p → read_archive t ≡ q → outcome (λ a. outcome (unites a) q) p ≡ bytes x → (a : Held) × (b : Held) × (read_archive s ≡ got a []) × (read_archive t ≡ got b [])
    go (halt n) q e h k = absurd (false≢true cc)
    go (got a rest) (halt n) e h k = absurd (false≢true cc)
    go (got a rest) (got b more) e h k = (a, b, e ∙ ap (got a) (archive_forth s a rest f e).3, h ∙ ap (got b) (archive_forth t b more g h).3)

-- Which comes first does not matter.
pub joins_turned : (s t : List ℕ) (a b : Held) (f : Bytes s) (g : Bytes t) (e : read_archive s ≡ got a []) (h : read_archive t ≡ got b []) → joins s t ≡ joins t s
joins_turned s t a b f g e h = cases (truth (same a.sizes b.sizes))
    (λ k. let z = same-eq a.sizes b.sizes k in
    joins-filed s t a b f g e h z
    ∙ ap (filed a.sizes) (united_comm sums (dims a) sums-add (rows_in a) (rows_in b) (first-table s t a b f g e h) (second-table s t a b f g e h z))
    ∙ ap (λ (zs : List ℕ). filed zs (united sums (length zs) (rows_in b) (rows_in a))) z ∙ sym (joins-filed t s b a g f h e (sym z)))
    (λ k. let n : a.sizes ≢ b.sizes = λ z. false≢true (sym k ∙ rw z (same_refl b.sizes)) in
    joins-apart s t a b f g e h n ∙ sym (joins-apart t s b a g f h e (λ z. n (sym z))))

-- Three archives joined either way are the same.
module _ (s t u : List ℕ) (a b c : Held) (f : Bytes s) (g : Bytes t) (i : Bytes u) (e : read_archive s ≡ got a []) (h : read_archive t ≡ got b []) (k : read_archive u ≡ got c []) where
  pub joins-grouped : {x y : List ℕ} → joins s t ≡ bytes x → joins t u ≡ bytes y → joins x u ≡ joins s y
  joins-grouped {x} {y} p q =
      let d = dims a in
      let z = joined-sizes s t a b f g e h p in
      let w = joined-sizes t u b c g i h k q in
      let l = first-table s t a b f g e h in
      let m = second-table s t a b f g e h z in
      let n = second-table s u a c f i e k (z ∙ w) in
      let left = required a.sizes (united sums d (rows_in a) (rows_in b)) in
      let right = required b.sizes (united sums (dims b) (rows_in b) (rows_in c)) in
      let zl : left.sizes ≡ a.sizes = required-sizes a.sizes (united sums d (rows_in a) (rows_in b)) in
      let zr : right.sizes ≡ b.sizes = required-sizes b.sizes (united sums (dims b) (rows_in b) (rows_in c)) in
      let rl : rows_in left ≡ united sums d (rows_in a) (rows_in b) = required-rows a.sizes (united sums d (rows_in a) (rows_in b)) in
      let rr : rows_in right ≡ united sums d (rows_in b) (rows_in c) = required-rows b.sizes (united sums (dims b) (rows_in b) (rows_in c)) ∙ ap (λ (zs : List ℕ). united sums (length zs) (rows_in b) (rows_in c)) (sym z) in
      joins-read x u (joined_accepted s t a b f g e h p) k ∙ unites-same left c (zl ∙ z ∙ w)
      ∙ ap₂ (λ (zs : List ℕ) (r : List (Row Total)). filed zs (united sums (length zs) r (rows_in c))) zl rl
      ∙ ap (filed a.sizes) (united_assoc sums d sums-add (rows_in a) (rows_in b) (rows_in c) l m n)
      ∙ ap (λ (r : List (Row Total)). filed a.sizes (united sums d (rows_in a) r)) (sym rr)
      ∙ sym (joins-read s y e (joined_accepted t u b c g i h k q) ∙ unites-same a right (z ∙ sym zr))

-- ---- an archive and itself

-- what such rows require: the same sizes, codes and lists, with every total twice
required_double : (zs : List ℕ) (rows : List (Row Total)) → required zs (map (λ r. as_one sums r r) rows) ≡ doubled (required zs rows)
unfolding required
required_double zs rows =
    let d = length zs in
    let twice = map (λ r. as_one sums r r) rows in
    ap₂ (λ (bs : List Based) (cs : List (Row Total)). record { sizes = zs; bases = bs; cells = cs })
    (map-map (based d twice) (λ r. as_one sums r r) rows
    ∙ ap (λ (xs : List (List ℕ)). map (λ r. record { row = as_one sums r r; list = listed (plain d) xs r.codes }) rows) (codes_double (plain d) sums sums-add rows)
    ∙ sym (map-map (λ b. record { row = as_one sums b.row b.row; list = b.list }) (based d rows) rows))
    (ap (λ (xs : List (List ℕ)). map (filled (plain d) sums twice) (normals (plain d) xs)) (codes_double (plain d) sums sums-add rows)
    ∙ map_same (filled (plain d) sums twice) (λ c. as_one sums (filled (plain d) sums rows c) (filled (plain d) sums rows c)) (normals (plain d) (codes_of rows))
    (λ c m. ap (λ (u : Total). record { codes = c; total = u }) (total_double (plain d) sums sums-add rows c))
    ∙ sym (map-map (λ r. as_one sums r r) (filled (plain d) sums rows) (normals (plain d) (codes_of rows))))

module _ (s : List ℕ) (a : Held) (f : Bytes s) (e : read_archive s ≡ got a []) where
  self : united sums (dims a) (rows_in a) (rows_in a) ≡ map (λ r. as_one sums r r) (rows_in a)
  self = let l = (archive_forth s a [] f e).0 in united_self sums (dims a) sums-add (rows_in a) (limits-table a.sizes (rows_in a) l) l.rising

  -- Joined with itself, unless 18 stops it, an archive has the same sizes, codes and lists, and every sum and count twice.
  pub joins_self : {x : List ℕ} → joins s s ≡ bytes x → read_archive x ≡ got (doubled a) []
  joins_self k =
      joined_accepted s s a a f f e e k
      ∙ ap (λ (h : Held). got h []) (ap (required a.sizes) self ∙ required_double a.sizes (rows_in a) ∙ ap doubled (sym (archive_forth s a [] f e).2))

-- ---- archives of tables

-- two lists of base rows, each filed, and both archives joined
pub joins-bytes : (zs : List ℕ) (a b : List (Row Total)) → Limits zs a → Limits zs b → joins (archive_bytes zs a) (archive_bytes zs b) ≡ filed zs (united sums (length zs) a b)
joins-bytes zs a b l m =
    joins-read (archive_bytes zs a) (archive_bytes zs b) (archive_back zs a l) (archive_back zs b m)
    ∙ unites-same (required zs a) (required zs b) (required-sizes zs a ∙ sym (required-sizes zs b))
    ∙ ap₂ (λ (ws : List ℕ) (r : List (Row Total)). filed ws (united sums (length ws) r (rows_in (required zs b)))) (required-sizes zs a) (required-rows zs a)
    ∙ ap (λ (r : List (Row Total)). filed zs (united sums (length zs) a r)) (required-rows zs b)

module _ (p q : Records) (l : TableLimits p) (m : TableLimits q) (z : p.sizes ≡ q.sizes) where
  -- what two tables build, joined, is filed as the rows of both, one behind the other
  joins-tables : joins (archive_bytes p.sizes (base_rows p)) (archive_bytes q.sizes (base_rows q)) ≡ filed p.sizes (folded sums (length p.sizes) (p.rows ++ q.rows))
  joins-tables =
      let d = length p.sizes in
      ap (λ (zs : List ℕ). joins (archive_bytes p.sizes (base_rows p)) (archive_bytes zs (folded sums (length zs) q.rows))) (sym z)
      ∙ joins-bytes p.sizes (base_rows p) (folded sums d q.rows) (folded-within p l)
      (subst (λ (zs : List ℕ). Limits zs (folded sums (length zs) q.rows)) (sym z) (folded-within q m))
      ∙ ap (filed p.sizes) (united-folded sums d sums-add p.rows q.rows (table-rows p l) (rw z (table-rows q m)))

-- the bytes that a table builds
built : (s : List ℕ) (t : Records) {x : List ℕ} → read_table s ≡ got t [] → builds s ≡ bytes x → archive_bytes t.sizes (base_rows t) ≡ x
unfolding builds
built s t e k = let f : bytes (archive_bytes t.sizes (base_rows t)) ≡ bytes _ = rw e at k in cc

-- The archives of two tables joined are the archive of one table with the rows of both.
pub joins_built : (p q r : List ℕ) (t u v : Records) → Bytes p → Bytes q → Bytes r → read_table p ≡ got t [] → read_table q ≡ got u [] → read_table r ≡ got v []
    → t.sizes ≡ v.sizes → u.sizes ≡ v.sizes → v.rows ≡ t.rows ++ u.rows → {x y : List ℕ} → builds p ≡ bytes x → builds q ≡ bytes y → joins x y ≡ builds r
unfolding builds
joins_built p q r t u v bp bq br ep eq er z w n {x} {y} kp kq =
    ap₂ joins (sym (built p t ep kp)) (sym (built q u eq kq))
    ∙ joins-tables t u (table_forth p t [] bp ep).0 (table_forth q u [] bq eq).0 (z ∙ sym w)
    ∙ ap₂ (λ (zs : List ℕ) (rows : List (Row Total)). filed zs (folded sums (length zs) rows)) z (sym n)
    ∙ filed-limits v.sizes (base_rows v) (folded-within v (table_forth r v [] br er).0) ∙ rw er
