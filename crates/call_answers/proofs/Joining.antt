-- Many archives into one, two at a time: whatever the plan, it gives the archive of all their base rows, folded. Where these are not too many, those of no step are; where they are, a step stops with 18.
use mathlib.Core.Path.{◌≡◌, refl, sym, ap, ap₂, subst, ◌∙◌}
use mathlib.Core.Bool.{true, false, false≢true}
use mathlib.Core.List.Memᴰ
use mathlib.Core.List.{List, [], ◌∷◌, ◌++◌, flat_map, append_assoc, append-nil, Permᴰ}
use Prim.Native.Nat.{ℕ, ◌≤◌}
use native.Mathlib.Omega.{arith}
use lib.Dec.{leb}
use lib.ListN.{length}
use borrow.Author.Tests.{leb-true, le-leb}
use Rattle.lists.specs.Lists.{◌∈◌}
use Rattle.lists.proofs.Tests.{cases, truth, refuted, both as both_true, both_of}
use Rattle.lists.proofs.Members.{flat_in, flat_append}
use Rattle.lists.proofs.Permutations.{perm_back}
use Rattle.fields_walk.specs.Limits.{Sized}
use Rattle.fields_walk.proofs.Limits.{below-coded}
use Rattle.cube.specs.declared.Total.{Total}
use Rattle.cube.specs.Measure.{Row, sums}
use Rattle.cube.specs.Bounds.{most, count_of}
use Rattle.cube.specs.Table.{Table, folded}
use Rattle.cube.proofs.Sums.{sums-add}
use Rattle.cube.proofs.Folding.{folded-rising}
use Rattle.cube.proofs.Reordering.{folded_reordered}
use Rattle.rows_merge.proofs.United.{united-folded}
use Rattle.cube.proofs.Folded.{folded-same}
use Rattle.rows_merge.proofs.Many.{folded-front, folded_behind, folded-each, folded-count, folded-parts}
use Rattle.table.specs.Layout.{Reads}
use Rattle.table.specs.Reading.{base_rows}
use Rattle.table.proofs.Accepted.{table_forth}
use Rattle.archive_entries.specs.Layout.{Fair, Limits, archive_bytes}
use Rattle.archive_entries.specs.Reading.{rows_in}
use Rattle.archive_entries.proofs.Limits.{limits-table}
use Rattle.archive_entries.proofs.Accepted.{archive_forth}
use Rattle.call_answers.specs.Answers.{Outcome, stop, bytes}
use Rattle.call_answers.specs.Calls.{builds}
use Rattle.call_answers.specs.Joins.{few, filed}
use Rattle.call_answers.specs.Joining.{Plan, one, both, parts, joins_both, joined_by, in_turn, ArchiveOf, TableOf, bases_at, records_at}
use Rattle.call_answers.proofs.Made.{readings_make}
use Rattle.call_answers.proofs.Folded.{folded-within}
use Rattle.call_answers.proofs.Limits.{fair-both, filed-limits}
use Rattle.call_answers.proofs.Joins.{joins-bytes}

-- ---- one step

filed-many : (zs : List ℕ) (rows : List (Row Total)) → few rows ≡ false → filed zs rows ≡ stop 18
filed-many zs rows e = rw e

-- the rows of a part are no more than those of the whole, nor are their readings
module _ (d : ℕ) (a b : List (Row Total)) (t : Table d a) (u : Table d b) where
  abbrev all : List (Row Total)
  all = folded sums d (a ++ b)

  few-part : (part : List (Row Total)) → length part ≤ length all → count_of part ≤ count_of all → few all ≡ true → few part ≡ true
  few-part part h k e =
      let p = both_true (leb (length all) 1024) (leb (count_of all) most) e in
      both_of (le-leb (length part) 1024 (omega (arith, h, leb-true (length all) 1024 p.0))) (le-leb (count_of part) most (omega (arith, k, leb-true (count_of all) most p.1)))

  pub few-front : few all ≡ true → few (folded sums d a) ≡ true
  few-front = few-part (folded sums d a) (folded-front sums sums-add d a b t u) (omega (arith, folded-count d a b t u))

  pub few_behind : few all ≡ true → few (folded sums d b) ≡ true
  few_behind = few-part (folded sums d b) (folded_behind sums sums-add d a b t u) (omega (arith, folded-count d a b t u))

-- rows of which each may be a base row of an archive
abbrev Fairs : List ℕ → List (Row Total) → Type 0
Fairs zs rows = (r : Row Total) → r ∈ rows → Fair zs r

module _ (zs : List ℕ) (z : Sized zs) where
  abbrev fold : List (Row Total) → List (Row Total)
  fold rows = folded sums (length zs) rows

  fairs_table : (rows : List (Row Total)) → Fairs zs rows → Table (length zs) rows
  fairs_table rows f r m = below-coded zs r.codes (λ n i. (z.each n i).1) (f r m).below

  -- folded, they are within the limits, where they are not too many
  fairs_limits : (rows : List (Row Total)) → Fairs zs rows → few (fold rows) ≡ true → Limits zs (fold rows)
  fairs_limits rows f e =
      let p = both_true (leb (length (fold rows)) 1024) (leb (count_of (fold rows)) most) e in
      record {
        sized = z;
        few = leb-true (length (fold rows)) 1024 p.0;
        rising = folded-rising sums (length zs) rows (fairs_table rows f);
        each = folded-each sums sums-add (length zs) (Fair zs) (fair-both zs) rows (fairs_table rows f) f;
        counts = leb-true (count_of (fold rows)) most p.1;
      }

  module _ (a b : List (Row Total)) (f : Fairs zs a) (g : Fairs zs b) where
    front : Table (length zs) a
    front = fairs_table a f

    behind : Table (length zs) b
    behind = fairs_table b g

    -- two lists of rows, each filed and then joined, are filed as both lists, one behind the other
    filed-both : joins_both (filed zs (fold a)) (filed zs (fold b)) ≡ filed zs (fold (a ++ b))
    filed-both = cases (truth (few (fold a)))
        (λ e. let l = fairs_limits a f e in
        cases (truth (few (fold b)))
        (λ h. let m = fairs_limits b g h in
        ap₂ joins_both (filed-limits zs (fold a) l) (filed-limits zs (fold b) m) ∙ joins-bytes zs (fold a) (fold b) l m ∙ ap (filed zs) (united-folded sums (length zs) sums-add a b front behind))
        (λ h. ap₂ joins_both (filed-limits zs (fold a) l) (filed-many zs (fold b) h) ∙ sym (filed-many zs (fold (a ++ b)) (refuted (λ k. false≢true (sym h ∙ few_behind (length zs) a b front behind k))))))
        (λ e. ap (λ (o : Outcome). joins_both o (filed zs (fold b))) (filed-many zs (fold a) e) ∙ sym (filed-many zs (fold (a ++ b)) (refuted (λ k. false≢true (sym e ∙ few-front (length zs) a b front behind k)))))

-- ---- all steps

-- what f gives for a part is the archive of the rows that g gives for it
record Part {A : Type 0} (zs : List ℕ) (f : A → Outcome) (g : A → List (Row Total)) (x : A) : Type 0 where
  sized : Sized zs
  fair : Fairs zs (g x)
  filed_as : f x ≡ filed zs (folded sums (length zs) (g x))

module _ {A : Type 0} (zs : List ℕ) (f : A → Outcome) (g : A → List (Row Total)) where
  part_of : (x : A) (rows : List (Row Total)) → g x ≡ rows → Sized zs → Fairs zs rows → f x ≡ filed zs (folded sums (length zs) rows) → Part zs f g x
  part_of x rows e z k h = record {
    sized = z;
    fair = λ r m. k r (rw e at m);
    filed_as = h ∙ ap (λ (l : List (Row Total)). filed zs (folded sums (length zs) l)) (sym e);
  }

  abbrev Parts : Plan A → Type 0
  Parts p = (x : A) → x ∈ parts p → Part zs f g x

  left : (p q : Plan A) → Parts (both p q) → Parts p
  left p q h x m = h x (Memᴰ.append_left _ m)

  right : (p q : Plan A) → Parts (both p q) → Parts q
  right p q h x m = h x (Memᴰ.append_right (parts p) m)

  plan_sized : (p : Plan A) → Parts p → Sized zs
  plan_sized (one x) h = (h x (Memᴰ.head refl)).sized
  plan_sized (both p q) h = plan_sized p (left p q h)

  plan_fair : (p : Plan A) → Parts p → Fairs zs (flat_map g (parts p))
  plan_fair p h r m = let i = flat_in g (parts p) m in (h i.0 i.1).fair r i.2

  plan_filed : (p : Plan A) → Parts p → joined_by f p ≡ filed zs (folded sums (length zs) (flat_map g (parts p)))
  unfolding flat_map
  plan_filed (one x) h = (h x (Memᴰ.head refl)).filed_as ∙ ap (λ (l : List (Row Total)). filed zs (folded sums (length zs) l)) (sym (append-nil (g x)))
  plan_filed (both p q) h =
      ap₂ joins_both (plan_filed p (left p q h)) (plan_filed q (right p q h))
      ∙ filed-both zs (plan_sized (both p q) h) (flat_map g (parts p)) (flat_map g (parts q)) (plan_fair p (left p q h)) (plan_fair q (right p q h))
      ∙ ap (λ (l : List (Row Total)). filed zs (folded sums (length zs) l)) (sym (flat_append g (parts p) (parts q)))

  -- the parts in another order
  plan_turned : (p q : Plan A) → Permᴰ (parts p) (parts q) → Parts p → joined_by f p ≡ joined_by f q
  plan_turned p q o h =
      plan_filed p h ∙ ap (filed zs) (folded-parts sums sums-add (length zs) g o)
      ∙ sym (plan_filed q (λ x m. h x (perm_back o m)))

-- ---- archives

bases-read : (zs s : List ℕ) (a : ArchiveOf zs s) → bases_at s ≡ rows_in a.held
unfolding bases_at
bases-read zs s a = rw a.read

archive_part : (zs s : List ℕ) → ArchiveOf zs s → Part zs bytes bases_at s
archive_part zs s a =
    let rows = rows_in a.held in
    let p = archive_forth s a.held [] a.are a.read in
    let l : Limits zs rows = subst (λ (ws : List ℕ). Limits ws rows) a.sizes p.0 in
    part_of zs bytes bases_at s rows (bases-read zs s a) l.sized l.each
    (ap bytes p.1 ∙ ap (λ (ws : List ℕ). bytes (archive_bytes ws rows)) a.sizes ∙ sym (filed-limits zs rows l)
    ∙ ap (filed zs) (sym (folded-same sums sums-add (length zs) rows (limits-table zs rows l) l.rising)))

module _ (zs : List ℕ) (p : Plan (List ℕ)) (h : (s : List ℕ) → s ∈ parts p → ArchiveOf zs s) where
  -- Archives of the same dimensions and sizes, joined by whatever plan, give the archive of all their base rows, folded, unless 18 stops it;
  pub joins-many : joined_by bytes p ≡ filed zs (folded sums (length zs) (flat_map bases_at (parts p)))
  joins-many = plan_filed zs bytes bases_at p (λ s m. archive_part zs s (h s m))

  -- so plans with the same archives give the same, in whichever order these are.
  pub joins_any : (q : Plan (List ℕ)) → Permᴰ (parts p) (parts q) → joined_by bytes p ≡ joined_by bytes q
  joins_any q o = plan_turned zs bytes bases_at p q o (λ s m. archive_part zs s (h s m))

-- One after the other is a plan of the same parts.
pub parts-turn : {A : Type 0} (p : Plan A) (xs : List A) → parts (in_turn p xs) ≡ parts p ++ xs
parts-turn p [] = sym (append-nil (parts p))
parts-turn p (x ∷ xs) = parts-turn (both p (one x)) xs ∙ append_assoc (parts p) (x ∷ []) xs

-- ---- tables

reads_fair : (zs : List ℕ) (r : Row Total) → Reads zs r → Fair zs r
reads_fair zs r k = record {
  below = k.below;
  counted = omega (arith, k.once);
  made = rw (← sums-add.none_more r.total) (readings_make (r ∷ []) (λ q m. cases (Memᴰ.cases_cons m) (λ e. rw e (k.reading, k.once)) (λ i. absurd (Memᴰ.not-nil i))));
}

records_read : (zs s : List ℕ) (k : TableOf zs s) → records_at s ≡ k.held.rows
unfolding records_at
records_read zs s k = rw k.read

builds-read : (zs s : List ℕ) (k : TableOf zs s) → builds s ≡ bytes (archive_bytes k.held.sizes (base_rows k.held))
unfolding builds
builds-read zs s k = rw k.read

table-part : (zs s : List ℕ) → TableOf zs s → Part zs builds records_at s
table-part zs s k =
    let l = (table_forth s k.held [] k.are k.read).0 in
    subst (λ (ws : List ℕ). Part ws builds records_at s) k.sizes
    (part_of k.held.sizes builds records_at s k.held.rows (records_read zs s k) l.sized (λ r m. reads_fair k.held.sizes r (l.each r m))
    (builds-read zs s k ∙ sym (filed-limits k.held.sizes (base_rows k.held) (folded-within k.held l))))

module _ (zs : List ℕ) (p : Plan (List ℕ)) (h : (s : List ℕ) → s ∈ parts p → TableOf zs s) where
  -- Tables of the same sizes, each built, and their archives joined by whatever plan, give the archive of all their rows, folded, however many these are;
  pub builds-many : joined_by builds p ≡ filed zs (folded sums (length zs) (flat_map records_at (parts p)))
  builds-many = plan_filed zs builds records_at p (λ s m. table-part zs s (h s m))

  -- so records in any order, cut into tables in any way, give the archive of the records.
  pub builds_any : (rows : List (Row Total)) → Permᴰ rows (flat_map records_at (parts p)) → joined_by builds p ≡ filed zs (folded sums (length zs) rows)
  builds_any rows o = builds-many ∙ ap (filed zs) (sym (folded_reordered o sums sums-add (length zs)))
