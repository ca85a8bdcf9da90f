-- Totals of totals: rows grouped by their codes have, for every test of codes, the total that the rows have.
use mathlib.Core.Path.{◌≡◌, refl, sym, ◌∙◌, ap}
use mathlib.Core.Logic.{◌≢◌}
use mathlib.Core.Bool.{Bool, true, false, cond}
use mathlib.Core.List.Memᴰ
use mathlib.Core.List.{List, [], ◌∷◌, map, foldl}
use Prim.Native.Nat.{ℕ}
use Rattle.lists.specs.Lists.{◌∈◌, keep, Distinct}
use Rattle.lists.specs.Order.{same}
use Rattle.lists.proofs.Tests.{cases, truth}
use Rattle.lists.proofs.Members.{map_same}
use Rattle.lists.proofs.Order.{same-eq, same_refl}
use Rattle.cube.specs.Measure.{Measure, Adds, Row, total_of, total_at}

-- key k with the amount f k
abbrev pub fill : {A : Type 0} → (List ℕ → A) → List ℕ → Row A
fill f k = record { codes = k; total = f k }

module _ {A : Type 0} (M : Measure A) (E : Adds M) where
  -- a running total that starts with a
  sum-from : (a : A) (l : List (Row A)) → foldl (λ t r. M.more t r.total) a l ≡ M.more a (total_of M l)
  sum-from a [] = sym (E.more_comm a M.none ∙ E.none_more a)
  sum-from a (r ∷ l) =
      sum-from (M.more a r.total) l ∙ E.more_assoc a r.total (total_of M l)
      ∙ ap (M.more a) (sym (sum-from (M.more M.none r.total) l ∙ ap (λ (t : A). M.more t (total_of M l)) (E.none_more r.total)))

  pub sum-cons : (r : Row A) (l : List (Row A)) → total_of M (r ∷ l) ≡ M.more r.total (total_of M l)
  sum-cons r l = sum-from (M.more M.none r.total) l ∙ ap (λ (t : A). M.more t (total_of M l)) (E.none_more r.total)

  pub more_swap : (a b c : A) → M.more a (M.more b c) ≡ M.more b (M.more a c)
  more_swap a b c = sym (E.more_assoc a b c) ∙ ap (λ (t : A). M.more t c) (E.more_comm a b) ∙ E.more_assoc b a c

  -- the amount a more where the test passed
  abbrev pub taking : Bool → A → A → A
  taking b a t = cond b (M.more a t) t

  taking_swap : (p q : Bool) (a b t : A) → taking p a (taking q b t) ≡ taking q b (taking p a t)
  taking_swap true true a b t = more_swap a b t
  taking_swap true false a b t = refl
  taking_swap false q a b t = refl

  taking_more : (p : Bool) (a b t : A) → taking p (M.more a b) t ≡ taking p a (taking p b t)
  taking_more true a b t = E.more_assoc a b t
  taking_more false a b t = refl

  taking_none : (p : Bool) → taking p M.none M.none ≡ M.none
  taking_none true = E.none_more M.none
  taking_none false = refl

  -- one row more, where it passes
  pub sum_taking : (p : List ℕ → Bool) (r : Row A) (l : List (Row A))
      → total_of M (keep (λ q. p q.codes) (r ∷ l)) ≡ taking (p r.codes) r.total (total_of M (keep (λ q. p q.codes) l))
  sum_taking p r l = cases (truth (p r.codes))
      (λ e. rw e (sum-cons r (keep (λ q. p q.codes) l)))
      (λ e. rw e)

  -- ---- amounts f of keys, totalled over the keys that pass

  abbrev spread : (List ℕ → Bool) → (List ℕ → A) → List (List ℕ) → A
  spread p f ks = total_of M (keep (λ q. p q.codes) (map (fill f) ks))

  spread_none : (p : List ℕ → Bool) (f : List ℕ → A) (ks : List (List ℕ)) → ((k : List ℕ) → f k ≡ M.none) → spread p f ks ≡ M.none
  spread_none p f [] h = refl
  spread_none p f (k ∷ ks) h =
      sum_taking p (fill f k) (map (fill f) ks)
      ∙ ap (λ (t : A). taking (p k) t (spread p f ks)) (h k)
      ∙ ap (taking (p k) M.none) (spread_none p f ks h)
      ∙ taking_none (p k)

  -- where one key x gains a, the total gains it if x passes
  spread_more : (p : List ℕ → Bool) (f g : List ℕ → A) (a : A) {x : List ℕ} (ks : List (List ℕ)) → Distinct ks → x ∈ ks
      → g x ≡ M.more a (f x) → ((k : List ℕ) → k ≢ x → g k ≡ f k) → spread p g ks ≡ taking (p x) a (spread p f ks)
  spread_more p f g a [] d m e h = absurd (Memᴰ.not-nil m)
  spread_more p f g a {x} (k ∷ ks) d (Memᴰ.head q) e h =
      let rest : map (fill g) ks ≡ map (fill f) ks = map_same (fill g) (fill f) ks (λ y i. ap (λ (t : A). record { codes = y; total = t }) (h y (λ s. d.0 y i (sym q ∙ sym s)))) in
      let now : g k ≡ M.more a (f k) = rw q at e in
      sum_taking p (fill g k) (map (fill g) ks)
      ∙ ap (λ (l : List (Row A)). taking (p k) (g k) (total_of M (keep (λ q. p q.codes) l))) rest
      ∙ ap (λ (t : A). taking (p k) t (spread p f ks)) now
      ∙ taking_more (p k) a (f k) (spread p f ks)
      ∙ ap (taking (p k) a) (sym (sum_taking p (fill f k) (map (fill f) ks)))
      ∙ ap (λ (y : List ℕ). taking (p y) a (spread p f (k ∷ ks))) (sym q)
  spread_more p f g a {x} (k ∷ ks) d (Memᴰ.tail m) e h =
      sum_taking p (fill g k) (map (fill g) ks)
      ∙ ap (λ (t : A). taking (p k) t (spread p g ks)) (h k (λ q. d.0 x m q))
      ∙ ap (taking (p k) (f k)) (spread_more p f g a ks d.1 m e h)
      ∙ taking_swap (p k) (p x) (f k) a (spread p f ks)
      ∙ ap (taking (p x) a) (sym (sum_taking p (fill f k) (map (fill f) ks)))

  -- Keys that have the codes of all rows, each with the total of its rows, total what the rows total.
  pub regroup : (p : List ℕ → Bool) (rows : List (Row A)) (ks : List (List ℕ)) → Distinct ks → ((r : Row A) → r ∈ rows → r.codes ∈ ks)
      → spread p (total_at M rows) ks ≡ total_of M (keep (λ r. p r.codes) rows)
  regroup p [] ks d h = spread_none p (total_at M []) ks (λ k. refl)
  regroup p (r ∷ rows) ks d h =
      spread_more p (total_at M rows) (total_at M (r ∷ rows)) r.total ks d (h r (Memᴰ.head refl))
      (sum_taking (same r.codes) r rows ∙ rw (same_refl r.codes))
      (λ k n. sum_taking (same k) r rows ∙ cases (truth (same k r.codes)) (λ e. absurd (n (same-eq k r.codes e))) (λ e. rw e))
      ∙ ap (taking (p r.codes) r.total) (regroup p rows ks d (λ q m. h q (Memᴰ.tail m)))
      ∙ sym (sum_taking p r rows)
