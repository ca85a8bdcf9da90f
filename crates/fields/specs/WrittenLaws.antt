-- Laws of writing: what stands where after it, and how one writer follows another.
use Rattle.std.specs.Prelude.{◌≡◌, ℕ, ◌+◌, ◌-◌, ◌≤◌, ◌<◌, take}
use Rattle.std.proofs.Math.Path.{refl, ap}
use Rattle.std.proofs.Common.{sym, ◌∙◌, arith, drop-drop, length-take-le, drop-cons}
use mathlib.Core.List.{List, [], ◌∷◌, ◌++◌, append_assoc, append-nil}
use Rattle.std.proofs.Math.Numerals.{add-one}
use Rattle.std.proofs.Math.ListN.{length, drop, get_or, set, length-set, length-append, length-drop, drop_of_length-le}
use Rattle.std.proofs.Math.Seq.{take_all, take_at, drop_at, set_at}
use borrow.Rule.Slice.PartMut.{mid_of, put_mid, same_len_mid}
use Rattle.fields.specs.Written.{written, written_at, Wrote}

module _ {A : Type 0} where
  -- ---- the lists

  pub length_written : (xs l : List A) → length xs ≤ length l → length (written xs l) ≡ length l
  unfolding written
  length_written xs l h = simp (length-append, length-drop) (omega arith)

  -- what was written stands at the front, and the rest is as it was
  pub take_written : (xs l : List A) (n : ℕ) → length xs ≡ n → take n (written xs l) ≡ xs
  unfolding written
  take_written xs l n e = take_at xs (drop (length xs) l) n e

  pub drop_written_at : (at : ℕ) (xs l : List A) → at ≤ length l → drop at (written_at at xs l) ≡ written xs (drop at l)
  unfolding written_at
  drop_written_at at xs l h = drop_at (take at l) (written xs (drop at l)) at (length-take-le at l h)

  -- what is written straight after a front that is written already
  pub written_then : (at : ℕ) (a b l : List A) → length a ≡ at → written_at at b (written a l) ≡ written (a ++ b) l
  unfolding written written_at
  written_then at a b l e =
      simp (take_at a (drop (length a) l) at e, drop_at a (drop (length a) l) at e, append_assoc, length-append, drop-drop)

  -- ---- the writers

  -- A callee that is lent the rest of m, from a place on, and writes xs over its front, leaves m with xs written there.
  pub lent_at : (at : ℕ) (m xs r : List A) → r ≡ written xs (mid_of at (length m - at) m) → put_mid at (length m - at) m r ≡ written_at at xs m
  unfolding written_at
  lent_at at m xs r e =
      let all : mid_of at (length m - at) m ≡ drop at m = take_all (length m - at) (drop at m) (simp length-drop (omega arith)) in
      let none : drop (length m - at) (drop at m) ≡ [] = drop_of_length-le (drop at m) {i = length m - at} (simp length-drop (omega arith)) in
      simp (none, append-nil, e, all)

  -- nothing written yet
  pub wrote_none : (l : List A) → Wrote [] l l 0
  unfolding written
  wrote_none l = record { count = refl; same = refl; list = refl }

  -- the front written at once
  pub wrote_over : {xs l m : List A} → length xs ≤ length l → m ≡ xs → Wrote xs l (m ++ drop (length xs) l) (length xs)
  unfolding written
  wrote_over {xs} {l} {m} h e =
      let now : m ++ drop (length xs) l ≡ xs ++ drop (length xs) l = ap (λ (k : List A). k ++ drop (length xs) l) e in
      record { count = refl; same = ap length now ∙ length_written xs l h; list = now }

  -- one element more
  pub wrote_one : {xs l m : List A} {n : ℕ} (x : A) → n < length l → Wrote xs l m n → Wrote (xs ++ (x ∷ [])) l (set m n x) (n + 1)
  unfolding written
  wrote_one {xs} {l} {m} {n} x h w =
      let rest : drop n l ≡ get_or l n x ∷ drop (n + 1) l = rw add-one (drop-cons l n x h) in
      let now : m ≡ xs ++ get_or l n x ∷ drop (n + 1) l = w.list ∙ rw (← w.count, rest) in
      record {
        count = simp length-append (omega arith);
        same = length-set m n x ∙ w.same;
        list = ap (λ (k : List A). set k n x) now ∙ set_at xs (get_or l n x) (drop (n + 1) l) x n (sym w.count)
            ∙ simp (append_assoc, length-append, ← w.count);
      }

  -- One section straight after another: the first writer wrote a, and the second, lent the rest, wrote b.
  pub wrote_then : {a b l m r : List A} {at k : ℕ} → Wrote a l m at → Wrote b (mid_of at (length m - at) m) r k
      → Wrote (a ++ b) l (put_mid at (length m - at) m r) (at + k)
  wrote_then {a} {b} {l} {m} {r} {at} {k} f s =
      record {
        count = simp length-append (omega arith);
        same = same_len_mid at (length m - at) m r s.same ∙ f.same;
        list = lent_at at m b r s.list ∙ ap (written_at at b) f.list ∙ written_then at a b l (sym f.count);
      }

  -- what was written stands at the front
  pub wrote_front : {xs l m : List A} {n : ℕ} → Wrote xs l m n → take n m ≡ xs
  wrote_front {xs} {l} {m} {n} w = ap (take n) w.list ∙ take_written xs l n (sym w.count)

  -- no more was written than there is room for
  pub wrote_within : {xs l m : List A} {n : ℕ} → Wrote xs l m n → n ≤ length m
  unfolding written
  wrote_within {xs} {l} w = omega (arith, w.count, ap length w.list, length-append xs (drop (length xs) l))
