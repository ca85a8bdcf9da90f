-- Tallies: each is the number of small tables with so many entries, and together they are all.
use mathlib.Core.Path.{◌≡◌, refl, ◌∙◌, ap, subst}
use mathlib.Core.Logic.{◌≢◌, ◌↔◌}
use mathlib.Core.Bool.{true}
use mathlib.Core.List.Memᴰ
use mathlib.Core.List.{List, [], ◌∷◌, map, flat_map}
use Prim.Native.Nat.{ℕ, suc, ◌*◌, ◌^◌, ◌≤◌, ◌<◌}
use native.Mathlib.Nat.{mul-le-mul_right, le_trans}
use native.Mathlib.Omega.{arith}
use lib.Dec.{eqb, ltb}
use lib.ListN.{length, length-append, length-map}
use lib.Pow.{pow_pos}
use borrow.Author.Tests.{eqb-true, eq-eqb, ltb-true, ltb-false, lt-ltb}
use Rattle.lists.specs.Lists.{◌∈◌, keep, Pairwise, Distinct, sum}
use Rattle.lists.proofs.Tests.{cases, truth}
use Rattle.lists.proofs.Members.{keep_in, keep_of, flat-length}
use Rattle.lists.proofs.Lengths.{flat-least, keep_turned}
use Rattle.lists.proofs.Pairwise.{pairwise_imp, pairwise_keep, keep_one}
use Rattle.lists.proofs.Pigeonhole.{one_long}
use Rattle.lattice.specs.Sets.{sets}
use Rattle.lattice.proofs.Sets.{sets-length}
use Rattle.cube.specs.declared.Total.{Total}
use Rattle.cube.specs.Measure.{Row, sums, codes_of}
use Rattle.cube.specs.Codes.{plain}
use Rattle.cube.specs.Condensed.{ours}
use Rattle.cube.specs.Table.{folded}
use Rattle.cube.proofs.Codes.{plain_laws}
use Rattle.cube.proofs.Normals.{normals-most}
use Rattle.cube.proofs.Ours.{ours-length}
use Rattle.cube.proofs.Folding.{folded-few}
use Rattle.small_model.specs.Small.{up_to, row, codes_at, table, tables, Small}
use Rattle.small_model.specs.Tally.{entries, has, having, tally, most_entries, occurs, occurring}
use Rattle.small_model.proofs.Numbers.{up_to_of, from-rising}
use Rattle.small_model.proofs.Tables.{codes-few, tables_in, small_in, tables-distinct, tables-length}

-- ---- no small table has more entries than `most_entries`

length-codes : (rows : List (Row Total)) → length (codes_of rows) ≡ length rows
length-codes rows = length-map rows (λ r. r.codes)

ours-most : (d : ℕ) (rows : List (Row Total)) → length rows ≤ 2 ^ d → length (ours (plain d) sums rows) ≤ most_entries d
ours-most d rows h =
    let n = normals-most (plain d) (plain_laws d) (codes_of rows) (2 ^ d) (pow_pos d) (omega (arith, length-codes rows, h)) in
    let m : length (sets d) * 2 ^ d ≤ 2 ^ d * 2 ^ d = mul-le-mul_right (2 ^ d) (sets-length d) in
    omega (arith, ours-length (plain d) sums rows, n, m, h)

small_few : (d : ℕ) {rows : List (Row Total)} → rows ∈ tables d → length rows ≤ 2 ^ d
unfolding tables
small_few d m =
    let r = Memᴰ.of_map (table d) (up_to (2 ^ 2 ^ d)) m in
    subst (λ (l : List (Row Total)). length l ≤ 2 ^ d) r.2 (omega (arith, length-map (codes_at d r.0) row, codes-few d r.0))

pub entries-most : (d : ℕ) {rows : List (Row Total)} → rows ∈ tables d → entries d rows ≤ most_entries d
unfolding entries
entries-most d {rows} m = ours-most d (folded sums d rows) (le_trans (folded-few sums d rows) (small_few d m))

-- ---- the tables with n entries

pub having_iff : (d n : ℕ) (rows : List (Row Total)) → (rows ∈ having d n) ↔ (Small d rows × (entries d rows ≡ n))
unfolding having
having_iff d n rows = (
  λ m. let k = keep_in (has d n) (tables d) m in (tables_in d k.0, eqb-true (entries d rows) n k.1),
  λ s. keep_of (has d n) (small_in d rows s.0) (eq-eqb (entries d rows) n s.1),
)

pub having-distinct : (d n : ℕ) → Distinct (having d n)
unfolding having
having-distinct d n = pairwise_keep ◌≢◌ (has d n) (tables d) (tables-distinct d)

-- ---- all tallies together

sum-flat : {A : Type 0} (f : ℕ → List A) (l : List ℕ) → sum (map (λ n. length (f n)) l) ≡ length (flat_map f l)
unfolding flat_map
sum-flat f [] = refl
sum-flat f (n ∷ l) = omega (arith, sum-flat f l, length-append (f n) (flat_map f l))

-- a number below b is one of those
once : (b k : ℕ) → k < b → keep (λ n. eqb k n) (up_to b) ≡ k ∷ []
once b k h = keep_one (λ n. eqb k n) (up_to b)
    (pairwise_imp ◌<◌ (λ m n. eqb k m ≡ true → eqb k n ≢ true) (up_to b) (λ m n i j l e f. omega (arith, l, eqb-true k m e, eqb-true k n f)) (from-rising 0 b))
    (up_to_of h) (eq-eqb k k refl)

-- the members of a list, told apart by a number below b
pub told-apart : {A : Type 0} (f : A → ℕ) (b : ℕ) (l : List A) → ((x : A) → x ∈ l → f x < b) → length (flat_map (λ n. keep (λ x. eqb (f x) n) l) (up_to b)) ≡ length l
told-apart {A} f b l h =
    let turned = keep_turned (λ n x. eqb (f x) n) (up_to b) l in
    let each : (x : A) → x ∈ l → length (keep (λ n. eqb (f x) n) (up_to b)) ≡ 1 = λ x m. ap length (once b (f x) (h x m)) in
    let few = flat-length (λ x. keep (λ n. eqb (f x) n) (up_to b)) 1 l (λ x m. omega (arith, each x m)) in
    let least = flat-least (λ x. keep (λ n. eqb (f x) n) (up_to b)) 1 l (λ x m. omega (arith, each x m)) in
    omega (arith, turned, few, least)

pub tallies_all : (d : ℕ) → sum (map (tally d) (up_to (suc (most_entries d)))) ≡ 2 ^ 2 ^ d
unfolding having
tallies_all d =
    sum-flat (λ n. keep (has d n) (tables d)) (up_to (suc (most_entries d)))
    ∙ told-apart (entries d) (suc (most_entries d)) (tables d) (λ rows m. omega (arith, entries-most d m))
    ∙ tables-length d

-- what occurs not adds nothing
sum-some : (f : ℕ → ℕ) (l : List ℕ) → sum (map f (keep (λ n. ltb 0 (f n)) l)) ≡ sum (map f l)
sum-some f [] = refl
sum-some f (n ∷ l) = cases (truth (ltb 0 (f n)))
    (λ e. rw e (omega (arith, sum-some f l)))
    (λ e. rw e (omega (arith, sum-some f l, ltb-false 0 (f n) e)))

pub occurring-all : (d : ℕ) → sum (map (tally d) (occurring d)) ≡ 2 ^ 2 ^ d
unfolding occurring
occurring-all d = sum-some (tally d) (up_to (suc (most_entries d))) ∙ tallies_all d

-- ---- the numbers that occur

long : {A : Type 0} {x : A} {l : List A} → x ∈ l → 0 < length l
long (Memᴰ.head e) = omega arith
long (Memᴰ.tail m) = omega (arith, long m)

pub occurring_iff : (d n : ℕ) → (n ∈ occurring d) ↔ ((rows : List (Row Total)) × Small d rows × (entries d rows ≡ n))
unfolding occurring
occurring_iff d n = (
  λ m.
      let k = keep_in (occurs d) (up_to (suc (most_entries d))) m in
      let r = one_long (having d n) (ltb-true 0 (tally d n) k.1) in
      let h = (having_iff d n r.0).0 r.1 in
      (r.0, h.0, h.1),
  λ s. keep_of (occurs d) (up_to_of {n = suc (most_entries d)} (omega (arith, s.2, entries-most d (small_in d s.0 s.1)))) (lt-ltb 0 (tally d n) (long ((having_iff d n s.0).1 (s.1, s.2)))),
)

pub occurring-rising : (d : ℕ) → Pairwise ◌<◌ (occurring d)
unfolding occurring
occurring-rising d = pairwise_keep ◌<◌ (occurs d) (up_to (suc (most_entries d))) (from-rising 0 (suc (most_entries d)))
