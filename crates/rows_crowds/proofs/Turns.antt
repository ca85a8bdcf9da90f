-- A loop over the 256 sets in lattice order, of which those below m have a turn: the slots of the sets that had one are filled.
use mathlib.Core.Path.{◌≡◌, refl, sym, ap, subst, ◌∙◌}
use mathlib.Core.Bool.{true}
use mathlib.Core.List.Memᴰ
use mathlib.Core.List.{List, [], ◌∷◌, ◌++◌, append-nil}
use Prim.Native.Nat.{ℕ, ◌+◌, ◌≤◌, ◌<◌}
use native.Mathlib.Omega.{arith}
use lib.Dec.{eqb, ltb}
use lib.ListN.{get_or}
use lib.Seq.{append_snoc}
use borrow.Author.Tests.{eqb-true, eqb-false, lt-ltb}
use Rattle.lists.specs.Lists.{◌∈◌}
use Rattle.lists.specs.Order.{Rising}
use Rattle.lists.proofs.Tests.{cases, truth}
use Rattle.lists.proofs.Members.{keep_of}
use Rattle.lists.proofs.Pairwise.{pairwise_keep}
use Rattle.lattice.specs.Sets.{before, sets, sets_from}
use Rattle.lattice.proofs.Sets.{sets_of, sets-rising}
use Rattle.lattice.proofs.Turns.{from_on, from-off, from-done}
use Rattle.rows_crowds.specs.Crowds.{shorter, Holds, AllHold, Filled}
use Rattle.rows_crowds.proofs.Shorter.{shorter-before, rising-front, shorter_less}

pub all-rising : (m : ℕ) → Rising before (sets_from m 0)
unfolding sets_from
all-rising m = pairwise_keep (λ s t. before s t ≡ true) (λ s. ltb s m) (sets 8) (sets-rising 8)

pub all_of : (m : ℕ) {t : ℕ} → m ≤ 256 → t < m → t ∈ sets_from m 0
unfolding sets_from
all_of m {t} h l = keep_of (λ s. ltb s m) (sets_of 8 (omega (arith, h, l))) (lt-ltb t m l)

-- the set without its last dimension had a turn before
pub shorter-done : (m : ℕ) (done rest : List ℕ) (s : ℕ) → m ≤ 256 → 1 ≤ s → s < m → done ++ s ∷ rest ≡ sets_from m 0 → shorter s ∈ done
shorter-done m done rest s h one l e =
    let small : s < 256 = omega (arith, h, l) in
    rising-front done rest s (shorter s) (subst (Rising before) (sym e) (all-rising m))
    (subst (λ (z : List ℕ). shorter s ∈ z) (sym e) (all_of m h (omega (arith, shorter_less s one small, l))))
    (shorter-before s one small)

pub record Filling (least d n : ℕ) (ws store sizes : List ℕ) (m k : ℕ) : Type 0 where
  pub below : k ≤ 256
  pub done : List ℕ
  pub left : done ++ sets_from m k ≡ sets_from m 0
  pub held : (t : ℕ) → t ∈ done → Holds least d n ws store sizes t

module _ {least d n : ℕ} {ws : List ℕ} {m : ℕ} (few : m ≤ 256) where
  pub filling_start : (store sizes : List ℕ) → Filling least d n ws store sizes m 0
  filling_start store sizes = record { below = omega arith; done = []; left = refl; held = λ t i. absurd (Memᴰ.not-nil i) }

  module _ {store sizes : List ℕ} {k : ℕ} (f : Filling least d n ws store sizes m k) where
    pub filling_done : 256 ≤ k → AllHold least d n ws store sizes m
    filling_done h =
        let e : f.done ≡ sets_from m 0 = sym (append-nil f.done) ∙ ap (λ (l : List ℕ). f.done ++ l) (sym (from-done m k h)) ∙ f.left in
        record { all = λ s l. f.held s (subst (λ (z : List ℕ). s ∈ z) (sym e) (all_of m few l)) }

    module _ {s : ℕ} (h : k < 256) (e : s ≡ get_or (sets 8) k 0) where
      pub filling_skip : m ≤ s → Filling least d n ws store sizes m (k + 1)
      filling_skip l = record {
        below = omega arith;
        done = f.done;
        left = ap (λ (z : List ℕ). f.done ++ z) (sym (from-off m k h (rw e at l))) ∙ f.left;
        held = f.held;
      }

      module _ (l : s < m) where
        next : f.done ++ s ∷ sets_from m (k + 1) ≡ sets_from m 0
        next = rw e (ap (λ (z : List ℕ). f.done ++ z) (sym (from_on m k h (rw e at l))) ∙ f.left)

        pub filling_shorter : 1 ≤ s → Holds least d n ws store sizes (shorter s)
        filling_shorter one = f.held (shorter s) (shorter-done m f.done (sets_from m (k + 1)) s few one l next)

        pub filling_more : {store₂ sizes₂ : List ℕ} → Filled least d n ws store sizes store₂ sizes₂ s → Filling least d n ws store₂ sizes₂ m (k + 1)
        filling_more g = record {
          below = omega arith;
          done = f.done ++ s ∷ [];
          left = append_snoc f.done s (sets_from m (k + 1)) ∙ next;
          held = λ t i. cases (truth (eqb t s))
              (λ q. rw (eqb-true t s q) g.here)
              (λ q. g.others least t (eqb-false t s q) (cases (Memᴰ.append_cases f.done i) (λ j. f.held t j) (λ j. absurd (eqb-false t s q (Memᴰ.eq_of_singleton j)))));
        }
