-- At a set whose smaller sets are told: rows may be passed over, and the rows of the set itself are those and the ones that come out alone.
use mathlib.Core.Path.{◌≡◌, refl, sym, ap, subst, ◌∙◌}
use mathlib.Core.Bool.{Bool, false, not, ◌||◌, false≢true, or-true}
use mathlib.Core.List.{List}
use Prim.Native.Nat.{ℕ, ◌<◌}
use lib.Dec.{eqb}
use lib.ListN.{length}
use borrow.Author.Tests.{eq-eqb, eqb-true, not-true}
use Rattle.lists.specs.Lists.{◌∈◌, some, keep}
use Rattle.lists.proofs.Tests.{cases, truth, refuted, some_in, some_of}
use Rattle.lists.proofs.Members.{keep_in, keep_of, keep_same}
use Rattle.rows.specs.Rows.{cut}
use Rattle.rows_bits.specs.Rowsets.{has, stays}
use Rattle.rows_order.specs.Index.{key}
use Rattle.rows_slots.specs.Slots.{shares}
use Rattle.rows_crowds.specs.Crowds.{Passing, left_out}
use Rattle.rows_crowds.proofs.Left.{left_in, left-of}
use Rattle.rows_alone.specs.Alone.{passes, is_new, Lower, Stored, Told}
use Rattle.rows_alone.proofs.Words.{passes-first}

module _ {d n : ℕ} {ws alone : List ℕ} {s : ℕ} (low : Lower d n ws alone s) (passed : List ℕ) (told : (x : ℕ) → has passed x ≡ passes 8 alone s x) where
  abbrev xs : List (List ℕ)
  xs = cut d n ws

  -- the rows that come out alone
  abbrev new : List ℕ
  new = keep (is_new alone s) (left_out 2 xs n s)

  pub lower_passing : length passed ≡ 32 → Passing 2 d n ws passed s
  lower_passing room = record {
    room = room;
    sound = λ x h e. ap not (told x) ∙ low.sound x h e;
    first = λ e x. ap not (told x ∙ ap (λ (z : ℕ). passes 8 alone z x) e ∙ passes-first alone x);
    next = λ e f x h. ap not (told x) ∙ low.next e f x h;
  }

  pub lower_new : keep (stays passed) (left_out 2 xs n s) ≡ new
  lower_new = keep_same (stays passed) (is_new alone s) (left_out 2 xs n s) (λ x m. ap not (told x))

  -- a row shares its cell, or it is passed over or comes out alone
  either_way : (x : ℕ) → x < n → some (eqb x) new || passes 8 alone s x ≡ not (shares 2 (key s xs) n x)
  either_way x h = cases (truth (shares 2 (key s xs) n x))
      (λ t. let none : some (eqb x) new ≡ false = refuted (λ q. let r = some_in (eqb x) new q in
      false≢true (sym (left_in 2 xs n s x (subst (λ (z : ℕ). z ∈ left_out 2 xs n s) (sym (eqb-true x r.0 r.2)) (keep_in (is_new alone s) (left_out 2 xs n s) r.1).0)).1 ∙ t)) in
      rw (none, t) (not-true (passes 8 alone s x) (low.sound x h t)))
      (λ t. cases (truth (passes 8 alone s x))
      (λ p. rw (p, t) (or-true (some (eqb x) new)))
      (λ p. cases (left-of 2 xs n s x h t)
      (λ m. rw (some_of (eqb x) {l = new} (keep_of (is_new alone s) m (ap not p)) (eq-eqb x x refl), t))
      (λ q. absurd (false≢true (sym p ∙ low.whole x h q.0 q.1)))))

  pub lower_told : (words alone₂ : List ℕ) → ((x : ℕ) → has words x ≡ some (eqb x) new || has passed x) → Stored words alone alone₂ s → Told d n ws alone alone₂ s
  lower_told words alone₂ f g = record {
    here = λ x h. ap (λ (w : List ℕ). has w x) g.here ∙ f x ∙ ap (λ (b : Bool). some (eqb x) new || b) (told x) ∙ either_way x h;
    others = g.others;
  }
