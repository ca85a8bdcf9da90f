-- Late readings one after the other: what comes of an archive is filed from its base rows and all the records, folded. So neither their order matters, nor which rows of a table come late.
use mathlib.Core.Path.{◌≡◌, refl, sym, ap, ap₂, subst, ◌∙◌}
use mathlib.Core.Bool.{true, false, false≢true}
use mathlib.Core.List.Memᴰ
use mathlib.Core.List.{List, [], ◌∷◌, ◌++◌, append-nil, append_assoc, Permᴰ}
use Prim.Native.Nat.{ℕ, ◌^◌, ◌<◌}
use native.Mathlib.Omega.{arith}
use lib.IntN.{ℤ}
use lib.ListN.{length}
use lib.Signed.{mag}
use Rattle.lists.specs.Lists.{◌∈◌}
use Rattle.lists.proofs.Tests.{cases, truth, refuted}
use Rattle.lists.proofs.Permutations.{perm_back}
use Rattle.fields_walk.specs.Parsed.{got}
use Rattle.fields_walk.specs.Limits.{Bytes, Sized}
use Rattle.fields_walk.proofs.Limits.{below-coded}
use Rattle.cube.specs.declared.Total.{Total}
use Rattle.cube.specs.Measure.{Row, sums}
use Rattle.cube.specs.Codes.{Coded}
use Rattle.cube.specs.Table.{Table, folded}
use Rattle.cube.proofs.Sums.{sums-add}
use Rattle.cube.proofs.Folding.{folded-none}
use Rattle.cube.proofs.Reordering.{folded_reordered}
use Rattle.cube.proofs.Folded.{folded-same}
use Rattle.rows_merge.specs.United.{united}
use Rattle.rows_merge.proofs.Appending.{table-append}
use Rattle.rows_merge.proofs.United.{united-folded}
use Rattle.rows_late.specs.Late.{late}
use Rattle.rows_late.proofs.Late.{late-folded}
use Rattle.table.specs.Layout.{Records, Reads, TableLimits}
use Rattle.table.specs.Reading.{read_table, base_rows}
use Rattle.table.proofs.Accepted.{table_forth}
use Rattle.archive_entries.specs.Layout.{Held, Limits, required, archive_bytes}
use Rattle.archive_entries.specs.Reading.{read_archive, rows_in}
use Rattle.archive_entries.proofs.Limits.{limits-table}
use Rattle.archive_entries.proofs.Accepted.{required-rows, required-sizes, archive_back, archive_forth}
use Rattle.call_answers.specs.Answers.{Outcome, stop, bytes}
use Rattle.call_answers.specs.Calls.{dims, builds}
use Rattle.call_answers.specs.Joins.{few, filed, joins}
use Rattle.call_answers.proofs.Answers.{no_bytes}
use Rattle.call_answers.proofs.Joining.{few-front}
use Rattle.call_answers.proofs.Folded.{table-rows, folded-within}
use Rattle.call_answers.proofs.Limits.{filed-limits, limits-united}
use Rattle.call_answers.proofs.Joins.{joins-filed}
use Rattle.call_add.specs.Adds.{coded, record_of, added, adds}
use Rattle.call_add.specs.AddsAll.{onward, adds_all, recorded, readings, AllCoded, AllReadings}
use Rattle.call_add.proofs.Codes.{coded-below, below_is_coded}
use Rattle.call_add.proofs.Records.{record_limits}
use Rattle.call_add.proofs.Adds.{added-coded}

module _ (zs : List ℕ) where
  abbrev base : List (Row Total) → List (Row Total)
  base rows = folded sums (length zs) rows

  -- records are rows of a table
  recorded-table : Sized zs → (rs : List (Row ℤ)) → AllCoded zs rs → Table (length zs) (recorded rs)
  recorded-table s rs k q m =
      let r = Memᴰ.of_map (λ r. record_of r.codes r.total) rs m in
      subst (λ (p : Row Total). Coded (length zs) p.codes) r.2
      (below-coded zs r.0.codes (λ z i. (s.each z i).1) (coded-below zs r.0.codes (k r.0 r.1)))

  -- an archive of a table's base rows, and the next record
  module _ (rows : List (Row Total)) (t : Table (length zs) rows) (l : Limits zs (base rows)) (r : Row ℤ) where
    abbrev more : List (Row Total)
    more = rows ++ recorded (r ∷ [])

    step-off : coded zs r.codes ≡ false → (rs : List (Row ℤ)) → adds_all (archive_bytes zs (base rows)) (r ∷ rs) ≡ stop 13
    unfolding adds_all adds added
    step-off h rs = rw (archive_back zs (base rows) l, required-sizes zs (base rows), h)

    module _ (k : coded zs r.codes ≡ true) where
      step-table : Table (length zs) more
      step-table = table-append (length zs) rows (recorded (r ∷ [])) t (recorded-table l.sized (r ∷ []) (λ q m. rw (Memᴰ.eq_of_singleton m) k))

      step-late : late sums (length zs) (base rows) (record_of r.codes r.total) ≡ base more
      step-late = late-folded sums sums-add (length zs) (record_of r.codes r.total) (below-coded zs r.codes (λ z i. (l.sized.each z i).1) (coded-below zs r.codes k)) rows t

      step : (rs : List (Row ℤ)) → adds_all (archive_bytes zs (base rows)) (r ∷ rs) ≡ onward (filed zs (base more)) (λ s. adds_all s rs)
      unfolding adds_all adds added
      step rs = rw (archive_back zs (base rows) l, required-sizes zs (base rows), k, required-rows zs (base rows))
          (ap (λ (q : List (Row Total)). onward (filed zs q) (λ s. adds_all s rs)) step-late)

      step-over : few (base more) ≡ false → (rs : List (Row ℤ)) → adds_all (archive_bytes zs (base rows)) (r ∷ rs) ≡ stop 18
      step-over h rs = step rs ∙ rw h

      step_on : few (base more) ≡ true → (rs : List (Row ℤ)) → adds_all (archive_bytes zs (base rows)) (r ∷ rs) ≡ adds_all (archive_bytes zs (base more)) rs
      step_on h rs = step rs ∙ rw h

      step-limits : mag r.total < 2 ^ 31 → few (base more) ≡ true → Limits zs (base more)
      step-limits m h = rw (← step-late) (limits-united zs (base rows) (recorded (r ∷ [])) l (record_limits zs r.codes r.total m l.sized k) (rw step-late h))

  rest-coded : {r : Row ℤ} {rs : List (Row ℤ)} → AllCoded zs (r ∷ rs) → AllCoded zs rs
  rest-coded k q i = k q (Memᴰ.tail i)

  rest-readings : {r : Row ℤ} {rs : List (Row ℤ)} → AllReadings (r ∷ rs) → AllReadings rs
  rest-readings m q i = m q (Memᴰ.tail i)

  -- the limits at each step follow from those of the whole
  all-filed : (rs : List (Row ℤ)) (rows : List (Row Total)) → Table (length zs) rows → Limits zs (base rows) → AllCoded zs rs → AllReadings rs
      → adds_all (archive_bytes zs (base rows)) rs ≡ filed zs (base (rows ++ recorded rs))
  unfolding adds_all
  all-filed [] rows t l k m = sym (ap (λ (q : List (Row Total)). filed zs (base q)) (append-nil rows) ∙ filed-limits zs (base rows) l)
  all-filed (r ∷ rs) rows t l k m =
      let c = k r (Memᴰ.head refl) in
      let u = step-table rows t l r c in
      let e : more rows t l r ++ recorded rs ≡ rows ++ recorded (r ∷ rs) = append_assoc rows (recorded (r ∷ [])) (recorded rs) in
      cases (truth (few (base (more rows t l r))))
      (λ h. step_on rows t l r c h rs
      ∙ all-filed rs (more rows t l r) u (step-limits rows t l r c (m r (Memᴰ.head refl)) h) (rest-coded k) (rest-readings m)
      ∙ ap (λ (q : List (Row Total)). filed zs (base q)) e)
      (λ h. let n : few (base (rows ++ recorded (r ∷ rs))) ≡ false = refuted (λ g. false≢true (sym h
      ∙ few-front (length zs) (more rows t l r) (recorded rs) u (recorded-table l.sized rs (rest-coded k)) (subst (λ (q : List (Row Total)). few (base q) ≡ true) (sym e) g))) in
      step-over rows t l r c h rs ∙ rw n)

  all-limits : (rs : List (Row ℤ)) (rows : List (Row Total)) → Table (length zs) rows → Limits zs (base rows) → AllCoded zs rs → AllReadings rs
      → few (base (rows ++ recorded rs)) ≡ true → Limits zs (base (rows ++ recorded rs))
  all-limits [] rows t l k m h = rw (append-nil rows) l
  all-limits (r ∷ rs) rows t l k m h =
      let c = k r (Memᴰ.head refl) in
      let u = step-table rows t l r c in
      let e : more rows t l r ++ recorded rs ≡ rows ++ recorded (r ∷ rs) = append_assoc rows (recorded (r ∷ [])) (recorded rs) in
      let g : few (base (more rows t l r ++ recorded rs)) ≡ true = subst (λ (q : List (Row Total)). few (base q) ≡ true) (sym e) h in
      let f = few-front (length zs) (more rows t l r) (recorded rs) u (recorded-table l.sized rs (rest-coded k)) g in
      subst (λ (q : List (Row Total)). Limits zs (base q)) e
      (all-limits rs (more rows t l r) u (step-limits rows t l r c (m r (Memᴰ.head refl)) f) (rest-coded k) (rest-readings m) g)

  -- what is not stopped passed 13 each time
  all_coded : (rs : List (Row ℤ)) (rows : List (Row Total)) → Table (length zs) rows → Limits zs (base rows) → AllReadings rs → {y : List ℕ}
      → adds_all (archive_bytes zs (base rows)) rs ≡ bytes y → AllCoded zs rs
  all_coded [] rows t l m e q i = absurd (Memᴰ.not-nil i)
  all_coded (r ∷ rs) rows t l m e q i = cases (truth (coded zs r.codes))
      (λ c. cases (truth (few (base (more rows t l r))))
      (λ h. cases (Memᴰ.cases_cons i) (λ p. rw p c)
      (all_coded rs (more rows t l r) (step-table rows t l r c) (step-limits rows t l r c (m r (Memᴰ.head refl)) h) (rest-readings m) (sym (step_on rows t l r c h rs) ∙ e) q))
      (λ h. absurd (no_bytes (sym (step-over rows t l r c h rs) ∙ e))))
      (λ c. absurd (no_bytes (sym (step-off rows t l r c rs) ∙ e)))

-- records one after the other in two parts
onward_then : (o : Outcome) (f g : List ℕ → Outcome) → onward (onward o f) g ≡ onward o (λ t. onward (f t) g)
onward_then (stop n) f g = refl
onward_then (bytes t) f g = refl

onward-same : (o : Outcome) (f g : List ℕ → Outcome) → ((t : List ℕ) → f t ≡ g t) → onward o f ≡ onward o g
onward-same (stop n) f g h = refl
onward-same (bytes t) f g h = h t

onward-bytes : (o : Outcome) → onward o (λ t. bytes t) ≡ o
onward-bytes (stop n) = refl
onward-bytes (bytes t) = refl

pub adds-all-append : (rs others : List (Row ℤ)) (s : List ℕ) → adds_all s (rs ++ others) ≡ onward (adds_all s rs) (λ t. adds_all t others)
unfolding adds_all
adds-all-append [] others s = refl
adds-all-append (r ∷ rs) others s =
    let o = adds s r.codes r.total in
    onward-same o (λ t. adds_all t (rs ++ others)) (λ t. onward (adds_all t rs) (λ u. adds_all u others)) (adds-all-append rs others)
    ∙ sym (onward_then o (λ t. adds_all t rs) (λ u. adds_all u others))

module _ (s : List ℕ) (a : Held) (f : Bytes s) (e : read_archive s ≡ got a []) where
  -- the base rows and all the records, folded
  abbrev rows : List (Row ℤ) → List (Row Total)
  rows rs = folded sums (dims a) (rows_in a ++ recorded rs)

  within : Limits a.sizes (rows_in a)
  within = (archive_forth s a [] f e).0

  table : Table (dims a) (rows_in a)
  table = limits-table a.sizes (rows_in a) within

  stays : folded sums (dims a) (rows_in a) ≡ rows_in a
  stays = folded-same sums sums-add (dims a) (rows_in a) table within.rising

  limits : Limits a.sizes (folded sums (dims a) (rows_in a))
  limits = rw stays within

  from : s ≡ archive_bytes a.sizes (folded sums (dims a) (rows_in a))
  from = (archive_forth s a [] f e).1 ∙ ap (archive_bytes a.sizes) (sym stays)

  -- Records of a row's codes, one after the other, give the archive of the base rows and all of them, folded, where these are not too many.
  pub adds-all-filed : (rs : List (Row ℤ)) → AllCoded a.sizes rs → AllReadings rs → adds_all s rs ≡ filed a.sizes (rows rs)
  adds-all-filed rs k m = ap (λ (t : List ℕ). adds_all t rs) from ∙ all-filed a.sizes rs (rows_in a) table limits k m

  all-within : (rs : List (Row ℤ)) → AllCoded a.sizes rs → AllReadings rs → few (rows rs) ≡ true → Limits a.sizes (rows rs)
  all-within rs = all-limits a.sizes rs (rows_in a) table limits

  -- Where codes are no row's, those before them settle whether 18 or 13 comes.
  pub adds-all_uncoded : (rs : List (Row ℤ)) (r : Row ℤ) (others : List (Row ℤ)) → AllCoded a.sizes rs → AllReadings rs → coded a.sizes r.codes ≡ false
      → adds_all s (rs ++ r ∷ others) ≡ onward (filed a.sizes (rows rs)) (λ t. stop 13)
  unfolding adds_all adds added
  adds-all_uncoded rs r others k m c =
      adds-all-append rs (r ∷ others) s ∙ ap (λ (o : Outcome). onward o (λ t. adds_all t (r ∷ others))) (adds-all-filed rs k m)
      ∙ cases (truth (few (rows rs)))
      (λ h. rw (h, archive_back a.sizes (rows rs) (all-within rs k m h), required-sizes a.sizes (rows rs), c))
      (λ h. rw h)

  -- What is not stopped had codes of a row each time, and is accepted.
  module _ (rs : List (Row ℤ)) (m : AllReadings rs) {y : List ℕ} (h : adds_all s rs ≡ bytes y) where
    pub adds-all-coded : AllCoded a.sizes rs
    adds-all-coded = all_coded a.sizes rs (rows_in a) table limits m (ap (λ (t : List ℕ). adds_all t rs) (sym from) ∙ h)

    pub adds-all_accepted : read_archive y ≡ got (required a.sizes (rows rs)) []
    adds-all_accepted =
        let g : filed a.sizes (rows rs) ≡ bytes y = sym (adds-all-filed rs adds-all-coded m) ∙ h in
        cases (truth (few (rows rs)))
        (λ o. let q : bytes (archive_bytes a.sizes (rows rs)) ≡ bytes y = rw o at g in
        let w : archive_bytes a.sizes (rows rs) ≡ y = cc in
        ap read_archive (sym w) ∙ archive_back a.sizes (rows rs) (all-within rs adds-all-coded m o))
        (λ o. absurd (no_bytes (let q : stop 18 ≡ bytes y = rw o at g in q)))

  -- So they are what the archive and one that holds just their rows join to.
  pub adds-all-joined : (rs : List (Row ℤ)) → AllCoded a.sizes rs → AllReadings rs → (t : List ℕ) (b : Held) → Bytes t → read_archive t ≡ got b [] → a.sizes ≡ b.sizes
      → rows_in b ≡ folded sums (dims a) (recorded rs) → adds_all s rs ≡ joins s t
  adds-all-joined rs k m t b g h z o =
      adds-all-filed rs k m
      ∙ ap (filed a.sizes) (sym (united-folded sums (dims a) sums-add (rows_in a) (recorded rs) table (recorded-table a.sizes within.sized rs k)) ∙ ap₂ (united sums (dims a)) stays (sym o))
      ∙ sym (joins-filed s t a b f g e h z)

  -- Their order does not matter.
  module _ {rs others : List (Row ℤ)} (o : Permᴰ rs others) (m : AllReadings rs) where
    rows_reordered : rows rs ≡ rows others
    rows_reordered = folded_reordered (mathlib.Core.List.Permᴰ.append_left (rows_in a) (mathlib.Core.List.Permᴰ.map (λ r. record_of r.codes r.total) o)) sums sums-add (dims a)

    pub adds-all_reordered : AllCoded a.sizes rs → adds_all s rs ≡ adds_all s others
    adds-all_reordered k =
        adds-all-filed rs k m ∙ ap (filed a.sizes) rows_reordered
        ∙ sym (adds-all-filed others (λ r i. k r (perm_back o i)) (λ r i. m r (perm_back o i)))

    -- whatever the codes are, if nothing stops it
    pub adds-all_any : {y : List ℕ} → adds_all s rs ≡ bytes y → adds_all s others ≡ bytes y
    adds-all_any h = sym (adds-all_reordered (adds-all-coded rs m h)) ∙ h

  -- Two records, either first.
  two_steps : {u : List ℕ} (p q : Row ℤ) → adds s p.codes p.total ≡ bytes u → adds_all s (p ∷ q ∷ []) ≡ adds u q.codes q.total
  unfolding adds_all
  two_steps {u} p q h = rw h (onward-bytes (adds u q.codes q.total))

  module _ (p q : Row ℤ) where
    both-are : (P : Row ℤ → Type 0) → P p → P q → (r : Row ℤ) → r ∈ p ∷ q ∷ [] → P r
    both-are P x y r i = cases (Memᴰ.cases_cons i) (λ g. subst P (sym g) x) (λ j. subst P (sym (Memᴰ.eq_of_singleton j)) y)

    pub adds_two : mag p.total < 2 ^ 31 → mag q.total < 2 ^ 31 → {u v : List ℕ} → adds s p.codes p.total ≡ bytes u → adds s q.codes q.total ≡ bytes v
        → adds u q.codes q.total ≡ adds v p.codes p.total
    adds_two x y h g =
        sym (two_steps p q h)
        ∙ adds-all_reordered (mathlib.Core.List.Permᴰ.swap refl refl) (both-are (λ r. mag r.total < 2 ^ 31) x y)
        (both-are (λ r. coded a.sizes r.codes ≡ true) (added-coded s a f e p.codes p.total h) (added-coded s a f e q.codes q.total g))
        ∙ two_steps q p g

-- ---- tables

-- rows of a table are what their records are
recorded-readings : (zs : List ℕ) (rows : List (Row Total)) → ((r : Row Total) → r ∈ rows → Reads zs r) → recorded (readings rows) ≡ rows
recorded-readings zs [] h = refl
recorded-readings zs (r ∷ rows) h =
    ap₂ ◌∷◌ (λ i. record { codes = r.codes; total = record { sum = r.total.sum; count = sym (h r (Memᴰ.head refl)).once i } }) (recorded-readings zs rows (λ q m. h q (Memᴰ.tail m)))

-- a table's rows in any order: those of another, and the records behind them
module _ (t u : Records) (l : TableLimits t) (k : TableLimits u) (z : u.sizes ≡ t.sizes) (rs : List (Row ℤ)) (o : Permᴰ t.rows (u.rows ++ recorded rs)) where
  late_reads : (r : Row ℤ) → r ∈ rs → Reads u.sizes (record_of r.codes r.total)
  late_reads r i = rw z (l.each (record_of r.codes r.total) (perm_back o (Memᴰ.append_right u.rows (Memᴰ.map (λ q. record_of q.codes q.total) i))))

  adds-all-table : adds_all (archive_bytes u.sizes (base_rows u)) rs ≡ bytes (archive_bytes t.sizes (base_rows t))
  adds-all-table =
      all-filed u.sizes rs u.rows (table-rows u k) (folded-within u k) (λ r i. below_is_coded u.sizes r.codes (late_reads r i).below) (λ r i. (late_reads r i).reading)
      ∙ ap (filed u.sizes) (sym (folded_reordered o sums sums-add (length u.sizes)))
      ∙ ap (λ (zs : List ℕ). filed zs (folded sums (length zs) t.rows)) z
      ∙ filed-limits t.sizes (base_rows t) (folded-within t l)

-- Some rows of a table built and the others added late, in any order, give the archive of the table;
pub adds-all_built : (p q : List ℕ) (t u : Records) → Bytes p → Bytes q → read_table p ≡ got t [] → read_table q ≡ got u [] → u.sizes ≡ t.sizes
    → (rs : List (Row ℤ)) → Permᴰ t.rows (u.rows ++ recorded rs) → onward (builds q) (λ s. adds_all s rs) ≡ builds p
unfolding builds
adds-all_built p q t u bp bq ep eq z rs o = rw (ep, eq) (adds-all-table t u (table_forth p t [] bp ep).0 (table_forth q u [] bq eq).0 z rs o)

-- so do all of them, added to the archive without rows.
pub adds-all-rows : (p : List ℕ) (t : Records) → Bytes p → read_table p ≡ got t [] → (rs : List (Row ℤ)) → Permᴰ (readings t.rows) rs
    → adds_all (archive_bytes t.sizes []) rs ≡ builds p
unfolding builds
adds-all-rows p t b e rs o =
    let l = (table_forth p t [] b e).0 in
    let none : Records = record { sizes = t.sizes; rows = [] } in
    let k : TableLimits none = record { sized = l.sized; few = omega arith; each = λ r m. absurd (Memᴰ.not-nil m) } in
    let g : Permᴰ t.rows (recorded rs) = subst (λ (q : List (Row Total)). Permᴰ q (recorded rs)) (recorded-readings t.sizes t.rows l.each)
    (mathlib.Core.List.Permᴰ.map (λ r. record_of r.codes r.total) o) in
    rw e (ap (λ (q : List (Row Total)). adds_all (archive_bytes t.sizes q) rs) (sym (folded-none sums (length t.sizes))) ∙ adds-all-table t none l k refl rs g)
