-- The front page: the user's demands 2 and 3 on bytes, and what the change requests ask to be shown. Demand 1 is the contracts of the calls (src/lib.rt of crates call_build, call_ask,
-- call_look, call_keys, call_fixes, call_fee, call_join, call_add and call_window), each an equation with its definition in specs/ of crate call_answers, or for a fee, a late record and a window
-- in specs/ of its own crate. Beside this page: Stops.antt (when a base entry stops with 8 and a file with 12), Room.antt (outputs that are always enough), Numbers.antt (the
-- number that another language gets tells a stop from a success), Empty.antt (an archive without base rows), Keys.antt (which codes fix which), Fees.antt (what is written for a fee), Joins.antt (two archives into one),
-- Late.antt (one late reading), Windows.antt (questions through a window), Small.antt (the small tables as files), Examples.antt (the worked examples of document 01).
-- Pages of other crates: cube, proofs/Promises.antt (the same demands on rows, without bytes); small_model, proofs/Promises.antt (C-23: all the small tables);
-- program_texts, proofs/Promises.antt (what builder and lister print).
use mathlib.Core.Path.{◌≡◌, refl, sym, ap, ap₂, subst, ◌∙◌}
use mathlib.Core.Logic.{◌↔◌}
use mathlib.Core.Bool.{true, false, not, ◌&&◌}
use mathlib.Core.Option.{some as just}
use mathlib.Core.List.Memᴰ
use mathlib.Core.List.{List, [], ◌++◌, map, flat_map, Permᴰ}
use Prim.Native.Nat.{ℕ, ◌+◌, ◌*◌, ◌%◌, ◌^◌, ◌<◌, ◌≤◌}
use lib.ListN.{length, take, drop, length-append, length-map, get_elem?}
use borrow.Author.Tests.{lt-ltb}
use Rattle.std.specs.Prelude.{Some, None, Result, Ok}
use Rattle.lists.specs.Lists.{◌∈◌}
use Rattle.lists.proofs.Members.{flat-same, flat-map}
use Rattle.stops.specs.declared.Stop.{Stop}
use Rattle.stops.proofs.Numbers.{one_numbered}
use Rattle.fields_check.specs.Check.{check_sum, check_of}
use Rattle.fields_check.proofs.CheckLaws.{check_sum_append, check_cut}
use Rattle.lattice.specs.Sets.{sets, holds}
use Rattle.lattice.proofs.Sets.{sets_of}
use Rattle.fields_walk.specs.Parsed.{got}
use Rattle.fields_walk.specs.Limits.{Bytes}
use Rattle.cube.specs.declared.Total.{Total}
use Rattle.cube.specs.Measure.{sums, Row, codes_of}
use Rattle.cube.specs.Codes.{Coded, agree, set-of, plain}
use Rattle.cube.proofs.Codes.{plain_laws}
use Rattle.cube.proofs.Normals.{base-within}
use Rattle.cube.specs.Cube.{Exists, total, filled, cells, complete, road}
use Rattle.cube.specs.Condensed.{Entry, base, normal, Answer, no_record, found, lookup, normals, listed, reach, Base, own, stands, Permitted, Condensed, ours, expansion}
use Rattle.cube.proofs.Sums.{sums-add}
use Rattle.cube.proofs.Existing.{existing_of, exists_node}
use Rattle.cube.proofs.Expansion.{expansion-complete}
use Rattle.cube.proofs.Folding.{cells-folded}
use Rattle.cube.proofs.Promises.{base-rows, any_expands, ours_condensed, any_road, no_record_iff, answer, one_entry, fewest_entries, as_few, shortest_list}
use Rattle.rows_compare.specs.declared.Order.TheVariants.{Equal}
use Rattle.rows.specs.Rows.{cut}
use Rattle.rows_compare.specs.Compare.{compared, named, has, FirstDifference, added, Longer}
use Rattle.rows_compare.proofs.Parting as parting
use Rattle.rows_compare.proofs.Longer as carrying
use Rattle.rows_order.specs.Index.{key, Indexed}
use Rattle.rows_runs.specs.Runs.{runs, again}
use Rattle.rows_runs.proofs.Longer as grouping
use Rattle.small_model.specs.Tally.{entries}
use Rattle.table.specs.Layout.{Records, TableLimits}
use Rattle.table.specs.Reading.{read_table, base_rows}
use Rattle.table.specs.Rearranged.{Rearranged}
use Rattle.table.proofs.Accepted.{table_forth}
use Rattle.table.proofs.Reordering.{reordered, base_reordered}
use Rattle.table.proofs.Rearranging.{rearranged_accepted}
use Rattle.archive_entries.specs.Layout.{Based, based, Held, section, cell_bytes, required, archive_bytes, Limits}
use Rattle.archive_entries.specs.Reading.{read_archive, rows_in}
use Rattle.archive_entries.proofs.Accepted.{required-rows, required-sizes, archive_back, archive_forth}
use Rattle.archive_entries.proofs.Limits.{limits-base}
use Rattle.call_questions.specs.Questions.{asks}
use Rattle.call_cuboids.specs.Cuboids.{cuboid_bytes, expansion_bytes, read_cuboid, read_expansion}
use Rattle.call_cuboids.proofs.Back.{cuboid-back, expansion-back}
use Rattle.call_answers.specs.Answers.{Outcome, bytes, within, answer_of, left_of, Answered}
use Rattle.call_answers.specs.Calls.{outcome, archived, builds, counted, checks, cuboid_of, lists_cuboid, expanded, expands, entries_in, told, looks_up}
use Rattle.call_answers.proofs.Answers.{answered-bytes}
use Rattle.call_answers.proofs.Entries.{entries-required, entries-ours as held-ours}
use Rattle.call_answers.proofs.Folded.{table-rows, folded-within}
use Rattle.promises.specs.Alone.{Alone}

told_none : (r : Answer Total) → told r ≡ Ok None → r ≡ no_record
told_none no_record h = refl
told_none (found n u) h = cc h

listed-required : (set : ℕ) (zs : List ℕ) (rows : List (Row Total)) → set < 2 ^ length zs
    → cuboid_of set (required zs rows) ≡ bytes (cuboid_bytes (length zs) rows set)
listed-required set zs rows h = rw (required-sizes zs rows, required-rows zs rows, lt-ltb set (2 ^ length zs) h)

expanded-required : (zs : List ℕ) (rows : List (Row Total)) → expanded (required zs rows) ≡ bytes (expansion_bytes (length zs) rows)
expanded-required zs rows = rw (required-sizes zs rows, required-rows zs rows)

entries-length : (a : Held) → length (entries_in a) ≡ length a.bases + length a.cells
entries-length a = length-append (map (λ b. base b.row b.list) a.bases) (map normal a.cells) ∙ ap₂ ◌+◌ (length-map a.bases _) (length-map a.cells _)

alone_by : (d : ℕ) (rows : List (Row Total)) → Base (plain d) (codes_of rows) → (f : Entry Total) (x : List ℕ) → Permitted (plain d) rows f → x ∈ stands (plain d) f → Alone d rows f x
alone_by d rows b (normal r) x p i = Memᴰ.eq_of_singleton i
alone_by d rows b (base r l) x p i = base-within (plain d) (plain_laws d) (codes_of rows) b l x (Memᴰ.map (λ q. q.codes) p.0) p.1 i

-- ---- Demand 2: a question to any accepted archive

module _ (s : List ℕ) (a : Held) (b : Bytes s) (e : read_archive s ≡ got a []) where
  -- its dimensions, and its base rows
  abbrev d : ℕ
  d = length a.sizes

  abbrev rows : List (Row Total)
  rows = rows_in a

  pub entries-ours : entries_in a ≡ ours (plain d) sums rows
  entries-ours = held-ours s a b e

  pub rows-base : Base (plain d) (codes_of rows)
  rows-base = let l = (archive_forth s a [] b e).0 in limits-base a.sizes rows l

  module _ (q : List ℕ) (k : asks a.sizes q ≡ true) where
    pub looked : looks_up s q ≡ told (lookup (plain d) q (ours (plain d) sums rows))
    unfolding looks_up
    looked = rw (e, k) (ap (λ (l : List (Entry Total)). told (lookup (plain d) q l)) entries-ours)

    -- A question gets 'no record' just if the cell does not exist: no base row falls in it, and it is not that of an archive without rows;
    pub no_record_just_if : (looks_up s q ≡ Ok None) ↔ (Exists (plain d) (codes_of rows) q → ⊥)
    no_record_just_if =
        let r = no_record_iff sums sums-add d rows rows-base q in
        (λ h. r.0 (told_none (lookup (plain d) q (ours (plain d) sums rows)) (sym looked ∙ h)), λ h. looked ∙ ap told (r.1 h))

    -- otherwise the cell's sum and count, and the number of an entry of the archive that stands for it,
    pub cell-answered : Exists (plain d) (codes_of rows) q → (n : ℕ) × (f : Entry Total) × (get_elem? (entries_in a) n ≡ just f) × (q ∈ stands (plain d) f)
        × (looks_up s q ≡ Ok (Some (record { sum = (total (plain d) sums rows q).sum; count = (total (plain d) sums rows q).count; entry = n })))
    cell-answered x = let r = answer sums sums-add d rows rows-base q x in (r.0, r.1, ap (λ (l : List (Entry Total)). get_elem? l r.0) entries-ours ∙ r.2, r.3, looked ∙ ap told r.4)

    -- and no other entry does.
    pub entry_alone : {f g : Entry Total} (m n : ℕ) → get_elem? (entries_in a) m ≡ just f → get_elem? (entries_in a) n ≡ just g
        → q ∈ stands (plain d) f → q ∈ stands (plain d) g → m ≡ n
    entry_alone m n x y = one_entry sums sums-add d rows rows-base q m n (ap (λ (l : List (Entry Total)). get_elem? l m) (sym entries-ours) ∙ x) (ap (λ (l : List (Entry Total)). get_elem? l n) (sym entries-ours) ∙ y)

  -- ---- Demand 2: what is written of any accepted archive, by whatever writer, is read back

  -- Its entries expand to the complete cube of its base rows.
  pub accepted_expands : expansion (plain d) sums (entries_in a) ≡ complete (plain d) sums rows
  accepted_expands =
      ap (expansion (plain d) sums) entries-ours
      ∙ expansion-complete (plain d) (plain_laws d) sums rows rows-base (ours_condensed sums sums-add d rows rows-base)

  held-within : Limits a.sizes rows
  held-within = (archive_forth s a [] b e).0

  -- What `list_cuboid` wrote is the cells of the set, each with its exact sum and count, and nothing else;
  pub cells-read : {set n : ℕ} {l m : List ℕ} → set < 2 ^ d → Answered (lists_cuboid s set) l m (Ok n) → read_cuboid d (take n m) ≡ got (cells (plain d) sums rows set) []
  unfolding lists_cuboid
  cells-read {set} {n} {l} {m} h w =
      let x : bytes (cuboid_bytes d rows set) ≡ bytes (take n m) = sym (ap (outcome (cuboid_of set)) e ∙ rw (lt-ltb set (2 ^ d) h)) ∙ answered-bytes w in
      let y : take n m ≡ cuboid_bytes d rows set = cc x in
      ap (read_cuboid d) y ∙ cuboid-back a.sizes rows held-within (sets_of d h)

  -- what `expand` wrote is these of every set, in lattice order,
  pub expansion-read : {n : ℕ} {l m : List ℕ} → Answered (expands s) l m (Ok n) → read_expansion d (take n m) ≡ got (map (cells (plain d) sums rows) (sets d)) []
  unfolding expands
  expansion-read {n} {l} {m} w =
      let x : bytes (expansion_bytes d rows) ≡ bytes (take n m) = sym (ap (outcome expanded) e) ∙ answered-bytes w in
      let y : take n m ≡ expansion_bytes d rows = cc x in
      ap (read_expansion d) y ∙ expansion-back a.sizes rows held-within

  -- one behind the other the complete cube.
  pub expansion-whole : {n : ℕ} {l m rest : List ℕ} {all : List (List (Row Total))} → Answered (expands s) l m (Ok n) → read_expansion d (take n m) ≡ got all rest
      → flat_map (λ cs. cs) all ≡ complete (plain d) sums rows
  unfolding complete
  expansion-whole {all = all} w r =
      let f : all ≡ map (cells (plain d) sums rows) (sets d) = cc (sym r ∙ expansion-read w) in
      ap (flat_map (λ (cs : List (Row Total)). cs)) f ∙ flat-map (λ cs. cs) (cells (plain d) sums rows) (sets d)

  -- ---- C-21: totals by any road

  -- The call lists the cells of a set.
  pub cells-listed : (set : ℕ) → set < 2 ^ d → lists_cuboid s set ≡ bytes (section cell_bytes (cells (plain d) sums rows set))
  unfolding lists_cuboid cuboid_bytes
  cells-listed set h = ap (outcome (cuboid_of set)) e ∙ rw (lt-ltb set (2 ^ d) h)

  valid : (x : List ℕ) → x ∈ codes_of rows → Coded d x
  valid = rows-base.valid

  listed-cell : {q : List ℕ} → Exists (plain d) (codes_of rows) q → filled (plain d) sums rows q ∈ cells (plain d) sums rows (set-of q)
  unfolding cells
  listed-cell x = Memᴰ.map (filled (plain d) sums rows) (existing_of (plain d) (plain_laws d) (codes_of rows) valid x refl)

  -- For a set that holds the set of the cell asked for: the listed cells of it that agree with that cell, added up, give the sum and the count that the question gets.
  pub road-answered : (q : List ℕ) → asks a.sizes q ≡ true → Exists (plain d) (codes_of rows) q → (larger : ℕ) → larger ∈ sets d → holds d larger (set-of q) ≡ true
      → (n : ℕ) × (looks_up s q ≡ Ok (Some (record { sum = (road (plain d) sums rows larger q).sum; count = (road (plain d) sums rows larger q).count; entry = n })))
  road-answered q k x larger j h =
      let c = cell-answered q k x in
      let t : road (plain d) sums rows larger q ≡ total (plain d) sums rows q
      = any_road sums sums-add d rows (λ r m. valid r.codes (Memᴰ.map (λ p. p.codes) m)) (exists_node (plain d) (plain_laws d) (codes_of rows) valid x) (filled (plain d) sums rows q) (listed-cell x) j h in
      (c.0, c.4 ∙ ap (λ (u : Total). Ok (Some (record { sum = u.sum; count = u.count; entry = c.0 }))) (sym t))

  -- Let two listings be read back, of a set and of one inside it: the cells of the larger that agree with a cell of the smaller, added up, give that cell's sum and count.
  pub roads_read : {larger smaller i j : ℕ} {k l m n : List ℕ} → larger < 2 ^ d → smaller < 2 ^ d → holds d larger smaller ≡ true
      → Answered (lists_cuboid s larger) k l (Ok i) → Answered (lists_cuboid s smaller) m n (Ok j)
      → {cs ds : List (Row Total)} {u v : List ℕ} → read_cuboid d (take i l) ≡ got cs u → read_cuboid d (take j n) ≡ got ds v
      → (r : Row Total) → r ∈ ds → total (plain d) sums cs r.codes ≡ r.total
  roads_read {larger} {smaller} p q h w x {cs} {ds} y z r i =
      let f : cs ≡ cells (plain d) sums rows larger = cc (sym y ∙ cells-read p w) in
      let g : ds ≡ cells (plain d) sums rows smaller = cc (sym z ∙ cells-read q x) in
      ap (λ (l : List (Row Total)). total (plain d) sums l r.codes) f
      ∙ any_road sums sums-add d rows (λ t m. valid t.codes (Memᴰ.map (λ c. c.codes) m)) (sets_of d q) r (subst (λ (l : List (Row Total)). r ∈ l) g i) (sets_of d p) h

-- ---- Demands 2 and 3: what `build` writes for an accepted table

module _ (s : List ℕ) (t : Records) (b : Bytes s) (e : read_table s ≡ got t []) where
  -- its dimensions, its base rows, and the archive that is written for it
  abbrev D : ℕ
  D = length t.sizes

  abbrev our_archive : List ℕ
  our_archive = archive_bytes t.sizes (base_rows t)

  limits : TableLimits t
  limits = (table_forth s t [] b e).0

  -- It is the archive of the table's base rows,
  pub built : builds s ≡ bytes our_archive
  unfolding builds
  built = rw e

  -- which every call accepts:
  pub built_read : read_archive our_archive ≡ got (required t.sizes (base_rows t)) []
  built_read = archive_back t.sizes (base_rows t) (folded-within t limits)

  pub built_check : checks our_archive ≡ Ok (record { bases = length (base_rows t); cells = length (normals (plain D) (codes_of (base_rows t))) })
  unfolding checks required
  built_check = ap counted built_read ∙ ap₂ (λ (m n : ℕ). Ok (record { bases = m; cells = n })) (length-map (base_rows t) _) (length-map (normals (plain D) (codes_of (base_rows t))) _)

  -- its cuboids are those of the table's own rows, each cell with the exact sum and count of its rows,
  cuboid_built : (set : ℕ) → cuboid_bytes D (base_rows t) set ≡ cuboid_bytes D t.rows set
  unfolding cuboid_bytes
  cuboid_built set = ap (section cell_bytes) (cells-folded sums D t.rows (table-rows t limits) (plain D) sums-add set)

  pub built_lists : (set : ℕ) → set < 2 ^ D → lists_cuboid our_archive set ≡ bytes (cuboid_bytes D t.rows set)
  unfolding lists_cuboid
  built_lists set h =
      ap (outcome (cuboid_of set)) built_read
      ∙ listed-required set t.sizes (base_rows t) h ∙ ap bytes (cuboid_built set)

  -- and expanded it is the complete cube of the table.
  pub built_expands : expands our_archive ≡ bytes (expansion_bytes D t.rows)
  unfolding expands expansion_bytes
  built_expands =
      ap (outcome expanded) built_read
      ∙ expanded-required t.sizes (base_rows t)
      ∙ ap bytes (flat-same (cuboid_bytes D (base_rows t)) (cuboid_bytes D t.rows) (sets D) (λ set m. cuboid_built set))

  -- The cells of that cube, set by set, are those of CUBE BY.
  pub expanded-cells : flat_map (cells (plain D) sums t.rows) (sets D) ≡ complete (plain D) sums t.rows
  unfolding complete
  expanded-cells = refl

  -- The entries in those bytes are our entries: the base rows with their lists, and the normal cells.
  abbrev held : Held
  held = required t.sizes (base_rows t)

  rows_of : Base (plain D) (codes_of (base_rows t))
  rows_of = base-rows sums sums-add D t.rows (table-rows t limits)

  pub built_entries : entries_in held ≡ ours (plain D) sums (base_rows t)
  built_entries = entries-required t.sizes (base_rows t)

  -- C-23 tallies tables by this number of entries.
  pub built_tallied : entries D t.rows ≡ length held.bases + length held.cells
  unfolding entries
  built_tallied = ap length (sym built_entries) ∙ entries-length held

  -- They are a condensed cube of the table.
  pub built_condensed : Condensed (plain D) sums (base_rows t) (entries_in held)
  built_condensed = subst (λ (es : List (Entry Total)). Condensed (plain D) sums (base_rows t) es) (sym built_entries) (ours_condensed sums sums-add D (base_rows t) rows_of)

  -- Every condensed cube of the table, by any writer, has at least as many entries, and as many exactly when its entries lie at the cells of ours, one at each.
  module _ {es : List (Entry Total)} (c : Condensed (plain D) sums (base_rows t) es) where
    pub built_fewest : length held.bases + length held.cells ≤ length es
    built_fewest = rw (← entries-length held, built_entries) (fewest_entries sums sums-add D (base_rows t) rows_of c)

    -- It stands for a cell other than an entry's own only by a base row, where no other base row falls in the cell.
    pub stands_alone : (f : Entry Total) → f ∈ es → (x : List ℕ) → x ∈ stands (plain D) f → Alone D (base_rows t) f x
    stands_alone f m x i = alone_by D (base_rows t) rows_of f x (c.permitted f m) i

    -- and it expands to the complete cube of the table.
    pub any_built_expands : expansion (plain D) sums es ≡ complete (plain D) sums t.rows
    any_built_expands = any_expands sums sums-add D t.rows (table-rows t limits) c

    pub built_as_few : (length es ≡ length held.bases + length held.cells) ↔ Permᴰ (map (own (plain D)) es) (map (own (plain D)) (entries_in held))
    built_as_few = rw (← entries-length held, built_entries) (as_few sums sums-add D (base_rows t) rows_of c)

  -- No list of sets that stands for the same cells as a row's list in those bytes is shorter.
  pub built_shortest : (r : Row Total) (list : List ℕ) → record { row = r; list = list } ∈ held.bases → (l : List ℕ) → ((u : ℕ) → u ∈ l → u ∈ sets D)
      → ((c : List ℕ) → (c ∈ reach (plain D) r.codes list) ↔ (c ∈ reach (plain D) r.codes l)) → length list ≤ length l
  unfolding required
  built_shortest r list m l h k =
      let q = Memᴰ.of_map (based D (base_rows t)) (base_rows t) m in
      let p : q.0 ≡ r = ap (λ (x : Based). x.row) q.2 in
      let f : listed (plain D) (codes_of (base_rows t)) r.codes ≡ list = ap (λ (x : Row Total). listed (plain D) (codes_of (base_rows t)) x.codes) (sym p) ∙ ap (λ (x : Based). x.list) q.2 in
      subst (λ (n : List ℕ). length n ≤ length l) f
      (shortest_list D (codes_of (base_rows t)) r.codes (rows_of.valid r.codes (Memᴰ.map (λ p. p.codes) (Memᴰ.cast (sym p) q.1))) l h (subst (λ (n : List ℕ). (c : List ℕ) → (c ∈ reach (plain D) r.codes n) ↔ (c ∈ reach (plain D) r.codes l)) (sym f) k))

-- ---- C-11: the bytes u are those of an accepted table s with its rows' bytes in another order

module _ (s u : List ℕ) (t : Records) (b : Bytes s) (e : read_table s ≡ got t []) (r : Rearranged (length t.sizes) s u) where
  -- They are accepted, and hold the same rows in that order;
  pub rearranged_read : (ys : List (Row Total)) × Permᴰ t.rows ys × (read_table u ≡ got (reordered t ys) [])
  rearranged_read = rearranged_accepted s u t b e r

  -- the archive is the same,
  pub rearranged_built : builds u ≡ builds s
  unfolding builds
  rearranged_built =
      let ys = rearranged_read in
      ap (outcome archived) ys.2 ∙ ap (λ (rows : List (Row Total)). bytes (archive_bytes t.sizes rows)) (base_reordered t ys.1) ∙ sym (ap (outcome archived) e)

  -- and so is what `build` returns and leaves, whatever output it is lent.
  pub rearranged_answered : {l m n : List ℕ} {p q : Result ℕ Stop} → Answered (builds s) l m p → Answered (builds u) l n q → (p ≡ q) × (m ≡ n)
  rearranged_answered {l} x y = (
    one_numbered _ _ (x.answer ∙ ap (λ (o : Outcome). answer_of (within (length l) o)) (sym rearranged_built) ∙ sym y.answer),
    x.output ∙ ap (λ (o : Outcome). left_of (within (length l) o) l) (sym rearranged_built) ∙ sym y.output,
  )

-- ---- C-13: the check word in parts

-- The sum over words cut in two between any of them is that of both parts, added modulo 2 to the power 32;
pub words_in_parts : (us vs : List ℕ) → check_sum (us ++ vs) ≡ (check_sum us + check_sum vs) % 2 ^ 32
words_in_parts us vs = check_sum_append us vs

-- so is the check word of a file's bytes cut in two at any multiple of four.
pub check_in_parts : (s : List ℕ) (k : ℕ) → check_of s ≡ (check_of (take (4 * k) s) + check_of (drop (4 * k) s)) % 2 ^ 32
check_in_parts s k = check_cut k s

-- ---- C-16: where two rows part

module _ (s : ℕ) (x y : List ℕ) where
  -- Compared under a set, two rows are equal just if they agree on it,
  pub compared-equal : (compared s x y ≡ Equal) ↔ (agree s x y ≡ true)
  compared-equal = parting.compared-equal s x y

  -- and otherwise the first dimension of the set at which they differ is named, with before or after by the codes there.
  pub compared-first : length x ≡ length y → agree s x y ≡ false → FirstDifference s x y (compared s x y)
  compared-first = parting.compared-first s x y

  module _ (d t : ℕ) (l : length x ≤ d) (b : s < 2 ^ d) (h : holds d t s ≡ true) where
    -- Under a longer set that holds it the result is the same, if every added dimension comes after the one named,
    pub compared_same : agree s x y ≡ false → ((i : ℕ) → has (added t s) i ≡ true → named (compared s x y) < i) → compared t x y ≡ compared s x y
    compared_same = carrying.compared_same d s t x y l b h

    -- and for rows that are equal under the shorter set it is that of the added dimensions alone:
    pub compared-added : compared s x y ≡ Equal → compared t x y ≡ compared (added t s) x y
    compared-added e = carrying.agree-added d s t x y l b h (compared-equal.0 e)

-- those that the longer set has and the shorter one has not.
pub added-has : (d s t i : ℕ) → i ≤ d → s < 2 ^ d → holds d t s ≡ true → has (added t s) i ≡ has t i && not (has s i)
added-has = carrying.added-has

-- So grouping carries over to a longer set, each of whose added dimensions comes after all of the shorter set. Let two indexes have the rows' numbers in the order of these sets.
module _ {n d s t : ℕ} {codes short long : List ℕ} (x : Indexed n d s codes short) (y : Indexed n d t codes long) (h : Longer d s t) where
  abbrev keys : ℕ → ℕ → List ℕ
  keys u = key u (cut d n codes)

  -- The longer set's is the shorter set's with the rows of each group ordered anew by the added dimensions alone,
  pub order-carried : long ≡ flat_map (again (keys (added t s))) (runs (keys s) short)
  order-carried = grouping.order-carried x y h

  -- and its groups are those that the rows of each group make by the added dimensions alone.
  pub groups-carried : runs (keys t) long ≡ flat_map (λ r. runs (keys (added t s)) (again (keys (added t s)) r)) (runs (keys s) short)
  groups-carried = grouping.groups-carried x y h
