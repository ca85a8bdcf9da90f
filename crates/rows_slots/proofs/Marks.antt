-- What a slot has of rows in order is their large groups, each with its last row marked.
use mathlib.Core.Path.{◌≡◌, refl, sym, ap, ◌∙◌}
use mathlib.Core.Bool.{Bool, true, false, not, ◌&&◌}
use mathlib.Core.List.Memᴰ
use mathlib.Core.List.{List, [], ◌∷◌, ◌++◌}
use Prim.Native.Nat.{ℕ, suc, ◌+◌, ◌≤◌}
use native.Mathlib.Omega.{arith}
use lib.Dec.{leb, eqb}
use lib.ListN.{length}
use borrow.Author.Tests.{eqb-true, eqb-false, le-leb, lt-leb}
use Rattle.lists.specs.Lists.{keep, only}
use Rattle.lists.specs.Order.{earlier, same}
use Rattle.lists.proofs.Tests.{cases, truth}
use Rattle.rows_order.specs.Index.{arranged}
use Rattle.rows_runs.specs.Runs.{Run, runs}
use Rattle.rows_order.specs.Few.{Ordered}
use Rattle.rows_order.proofs.Arranged.{arranged_ordered}
use Rattle.rows_runs.proofs.Runs.{runs-first, runs-one, runs-part, runs-join}
use Rattle.rows_order.proofs.Dealt.{same-earlier}
use Rattle.rows_slots.specs.Slots.{flat, large, crowds, loners, pack, packed, is_lone, entry, slot_from, lone_from}
use Rattle.rows_slots.proofs.Groups.{loners-flat}

abbrev more_of : List Run → List ℕ
more_of [] = []
more_of (r ∷ rs) = r.more

abbrev rest_of : List Run → List Run
rest_of [] = []
rest_of (r ∷ rs) = rs

runs_none : (key : ℕ → List ℕ) → runs key [] ≡ []
unfolding runs
runs_none key = refl

module _ (key : ℕ → List ℕ) where
  -- of two rows in order, the second is of another group where the first comes before it
  parts : (x y : ℕ) → earlier (key y) (key x) ≡ false → not (same (key x) (key y)) ≡ earlier (key x) (key y)
  parts x y h = rw (same-earlier (key x) (key y), h) (cases (truth (earlier (key x) (key y))) (λ t. rw t refl) (λ t. rw t refl))

  module _ (least : ℕ) (low : 1 ≤ least) (high : least ≤ 2) where
    lone_not : (f t : Bool) → f && t ≡ false → is_lone least f t ≡ false
    lone_not f t e = rw e (cases (truth (eqb least 2)) (λ u. rw u refl) (λ u. rw u refl))

    -- a row whose group goes on
    going : (x : ℕ) (rest : List ℕ) → entry (eqb least 2 && false) false x rest ≡ x ∷ rest
    going x rest = rw (lone_not true false refl) refl

    -- a row that starts and ends a group
    one : (x : ℕ) (rest : List ℕ) (rs : List Run) → rest ≡ packed (keep (large least) rs)
        → entry (is_lone least true true) true x rest ≡ packed (keep (large least) (record { first = x; more = [] } ∷ rs))
    one x rest rs e = cases (truth (eqb least 2))
        (λ t. let s : leb least 1 ≡ false = small t in rw (t, s) e)
        (λ t. let s : leb least 1 ≡ true = big t in rw (t, s) (ap (λ (l : List ℕ). (x + 1024) ∷ l) e))
      where
        small : eqb least 2 ≡ true → leb least 1 ≡ false
        small t = let e = eqb-true least 2 t in lt-leb least 1 (omega arith)

        big : eqb least 2 ≡ false → leb least 1 ≡ true
        big t = let n = eqb-false least 2 t in le-leb least 1 (omega (arith, n))

    -- what a slot has where a group starts with the first row, and where one has started before it
    Outer : ℕ → List ℕ → Type 0
    Outer x l = slot_from key least true (x ∷ l) ≡ packed (keep (large least) (runs key (x ∷ l)))

    Inner : ℕ → List ℕ → Type 0
    Inner x l = slot_from key least false (x ∷ l) ≡ pack x (more_of (runs key (x ∷ l))) ++ packed (keep (large least) (rest_of (runs key (x ∷ l))))

    from : (x : ℕ) (l : List ℕ) → Ordered key (x ∷ l) → Outer x l × Inner x l
    unfolding Outer Inner
    from x [] o = (
      rw (runs-one key x, runs_none key) (one x [] [] refl),
      rw (runs-one key x, runs_none key, lone_not false true refl) refl,
    )
    from x (y ∷ l) o =
        let ih = from y l o.1 in
        let p = parts x y (o.0 y (Memᴰ.head refl)) in
        cases (truth (earlier (key x) (key y)))
        (λ t. let c : not (same (key x) (key y)) ≡ true = p ∙ t in (
          rw (c, runs-part key x y l t) (one x (slot_from key least true (y ∷ l)) (runs key (y ∷ l)) ih.0),
          rw (c, runs-part key x y l t, lone_not false true refl) (ap (λ (m : List ℕ). (x + 1024) ∷ m) ih.0),
        ))
        (λ t. let c : not (same (key x) (key y)) ≡ false = p ∙ t in
        let f = runs-first key y l in
        let j = runs-join key x y l f.0 f.1 t f.2 in
        let big : leb least (suc (suc (length f.0))) ≡ true = le-leb least (suc (suc (length f.0))) (omega arith) in
        let rest : slot_from key least false (y ∷ l) ≡ pack y f.0 ++ packed (keep (large least) f.1) = rw f.2 at ih.1 in (
          rw (c, j, big) (going x (slot_from key least false (y ∷ l)) ∙ ap (λ (m : List ℕ). x ∷ m) rest),
          rw (c, j) (going x (slot_from key least false (y ∷ l)) ∙ ap (λ (m : List ℕ). x ∷ m) rest),
        ))

    pub slot-packed : (l : List ℕ) → Ordered key l → slot_from key least true l ≡ packed (keep (large least) (runs key l))
    unfolding Outer Inner
    slot-packed [] o = sym (ap (λ (rs : List Run). packed (keep (large least) rs)) (runs_none key))
    slot-packed (x ∷ l) o = (from x l o).0

    -- ---- the rows that are left out

    abbrev pub small : Run → Bool
    small r = not (large least r)

    one-lone : (x : ℕ) (rest : List ℕ) (rs : List Run) → rest ≡ flat (keep small rs) → only (is_lone least true true) x rest ≡ flat (keep small (record { first = x; more = [] } ∷ rs))
    one-lone x rest rs e = cases (truth (eqb least 2))
        (λ t. let s : leb least 1 ≡ false = (let q = eqb-true least 2 t in lt-leb least 1 (omega arith)) in rw (t, s) (ap (λ (l : List ℕ). x ∷ l) e))
        (λ t. let s : leb least 1 ≡ true = (let q = eqb-false least 2 t in le-leb least 1 (omega (arith, q))) in rw (t, s) e)

    going_lone : (x : ℕ) (rest : List ℕ) → only (eqb least 2 && false) x rest ≡ rest
    going_lone x rest = rw (lone_not true false refl) refl

    OuterLone : ℕ → List ℕ → Type 0
    OuterLone x l = lone_from key least true (x ∷ l) ≡ flat (keep small (runs key (x ∷ l)))

    InnerLone : ℕ → List ℕ → Type 0
    InnerLone x l = lone_from key least false (x ∷ l) ≡ flat (keep small (rest_of (runs key (x ∷ l))))

    from-lone : (x : ℕ) (l : List ℕ) → Ordered key (x ∷ l) → OuterLone x l × InnerLone x l
    unfolding OuterLone InnerLone
    from-lone x [] o = (
      rw (runs-one key x, runs_none key) (one-lone x [] [] refl),
      rw (runs-one key x, runs_none key) (going_lone x []),
    )
    from-lone x (y ∷ l) o =
        let ih = from-lone y l o.1 in
        let p = parts x y (o.0 y (Memᴰ.head refl)) in
        cases (truth (earlier (key x) (key y)))
        (λ t. let c : not (same (key x) (key y)) ≡ true = p ∙ t in (
          rw (c, runs-part key x y l t) (one-lone x (lone_from key least true (y ∷ l)) (runs key (y ∷ l)) ih.0),
          rw (c, runs-part key x y l t) (going_lone x (lone_from key least true (y ∷ l)) ∙ ih.0),
        ))
        (λ t. let c : not (same (key x) (key y)) ≡ false = p ∙ t in
        let f = runs-first key y l in
        let j = runs-join key x y l f.0 f.1 t f.2 in
        let big : leb least (suc (suc (length f.0))) ≡ true = le-leb least (suc (suc (length f.0))) (omega arith) in
        let rest : lone_from key least false (y ∷ l) ≡ flat (keep small f.1) = rw f.2 at ih.1 in (
          rw (c, j, big) (going_lone x (lone_from key least false (y ∷ l)) ∙ rest),
          rw (c, j) (going_lone x (lone_from key least false (y ∷ l)) ∙ rest),
        ))

    pub lone-flat : (l : List ℕ) → Ordered key l → lone_from key least true l ≡ flat (keep small (runs key l))
    unfolding OuterLone InnerLone
    lone-flat [] o = sym (ap (λ (rs : List Run). flat (keep small rs)) (runs_none key))
    lone-flat (x ∷ l) o = (from-lone x l o).0

    -- ---- all rows in order

    pub slot-arranged : (n : ℕ) → slot_from key least true (arranged key n) ≡ packed (crowds least key n)
    unfolding crowds
    slot-arranged n = slot-packed (arranged key n) (arranged_ordered key n)

    pub lone-arranged : (n : ℕ) → lone_from key least true (arranged key n) ≡ loners least key n
    lone-arranged n = lone-flat (arranged key n) (arranged_ordered key n) ∙ loners-flat key n least
