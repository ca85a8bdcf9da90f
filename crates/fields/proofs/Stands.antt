-- A word stands at a place just if its four bytes make it.
use mathlib.Core.Path.{◌≡◌, refl, sym, ap, ap₂, ◌∙◌}
use mathlib.Core.Bool.{Bool, true, ◌&&◌}
use mathlib.Core.List.{List, [], ◌∷◌}
use Prim.Native.Nat.{ℕ, ◌+◌, ◌/◌, ◌%◌, ◌^◌, ◌≤◌, ◌<◌}
use native.Mathlib.Nat.{add-zero}
use native.Mathlib.Omega.{arith}
use lib.Dec.{eqb}
use lib.ListN.{length, take, drop, get_or, length-drop}
use lib.Seq.{get_or-drop}
use borrow.Author.Tests.{eq-eqb, eqb-true, eqb-false}
use Rattle.lists.proofs.Tests.{cases, truth, both, refuted}
use Rattle.std.specs.Int.{w32, to_le_bytes}
use Rattle.std.proofs.lemmas.Bool.Decides.{nat_tests}
use lib.Pointwise.{pointwise}
use Rattle.fields.specs.Words.{word, word_at, word_bytes}
use Rattle.fields.specs.Opening.{starts_with}

module _ (a b c d w : ℕ) (ha : a < 256) (hb : b < 256) (hc : c < 256) (hd : d < 256) (hw : w < 2 ^ 32) where
  -- the test byte by byte
  abbrev bytewise : Bool
  bytewise = eqb a (w % 256) && (eqb b (w / 256 % 256) && (eqb c (w / 256 / 256 % 256) && (eqb d (w / 256 / 256 / 256 % 256) && true)))

  made : bytewise ≡ true → word a b c d ≡ w
  made t =
      let p = both (eqb a (w % 256)) (eqb b (w / 256 % 256) && (eqb c (w / 256 / 256 % 256) && (eqb d (w / 256 / 256 / 256 % 256) && true))) t in
      let q = both (eqb b (w / 256 % 256)) (eqb c (w / 256 / 256 % 256) && (eqb d (w / 256 / 256 / 256 % 256) && true)) p.1 in
      let r = both (eqb c (w / 256 / 256 % 256)) (eqb d (w / 256 / 256 / 256 % 256) && true) q.1 in
      let u = both (eqb d (w / 256 / 256 / 256 % 256)) true r.1 in
      omega (arith, eqb-true a (w % 256) p.0, eqb-true b (w / 256 % 256) q.0, eqb-true c (w / 256 / 256 % 256) r.0, eqb-true d (w / 256 / 256 / 256 % 256) u.0)

  word-bytes : bytewise ≡ eqb (word a b c d) w
  word-bytes = cases (truth (eqb (word a b c d) w))
      (λ t. let e = eqb-true (word a b c d) w t in
      rw (eq-eqb a (w % 256) (omega (arith, e)), eq-eqb b (w / 256 % 256) (omega (arith, e)), eq-eqb c (w / 256 / 256 % 256) (omega (arith, e)), eq-eqb d (w / 256 / 256 / 256 % 256) (omega (arith, e)), t))
      (λ t. refuted (λ u. eqb-false (word a b c d) w t (made u)) ∙ sym t)

-- four bytes in front
front : (l : List ℕ) (w : ℕ) → 4 ≤ length l → get_or l 0 0 < 256 → get_or l 1 0 < 256 → get_or l 2 0 < 256 → get_or l 3 0 < 256 → w < 2 ^ 32
    → starts_with l (word_bytes w) ≡ eqb (word (get_or l 0 0) (get_or l 1 0) (get_or l 2 0) (get_or l 3 0)) w
front [] w h ha hb hc hd hw = absurd (omega arith)
front (a ∷ []) w h ha hb hc hd hw = absurd (omega arith)
front (a ∷ b ∷ []) w h ha hb hc hd hw = absurd (omega arith)
front (a ∷ b ∷ c ∷ []) w h ha hb hc hd hw = absurd (omega arith)
front (a ∷ b ∷ c ∷ d ∷ l) w h ha hb hc hd hw = word-bytes a b c d w ha hb hc hd hw

-- the word at a place
pub starts-word : (s : List ℕ) (at w : ℕ) → at + 4 ≤ length s → ((k : ℕ) → get_or s k 0 < 256) → w < 2 ^ 32
    → starts_with (drop at s) (word_bytes w) ≡ eqb (word_at s at) w
unfolding word_at
starts-word s at w h b hw =
    let p : get_or (drop at s) 0 0 ≡ get_or s at 0 = get_or-drop at s 0 0 ∙ ap (λ (k : ℕ). get_or s k 0) (add-zero at) in
    let q : get_or (drop at s) 1 0 ≡ get_or s (at + 1) 0 = get_or-drop at s 1 0 in
    let r : get_or (drop at s) 2 0 ≡ get_or s (at + 2) 0 = get_or-drop at s 2 0 in
    let t : get_or (drop at s) 3 0 ≡ get_or s (at + 3) 0 = get_or-drop at s 3 0 in
    front (drop at s) w (simp length-drop (omega arith)) (rw p (b at)) (rw q (b (at + 1))) (rw r (b (at + 2))) (rw t (b (at + 3))) hw ∙ rw (p, q, r, t) refl

-- ---- the library's forms

-- the bytes of a word
pub le-bytes : (w : ℕ) → to_le_bytes w32 w ≡ word_bytes w
le-bytes w =
    let p : w / 65536 % 256 ≡ w / 256 / 256 % 256 = omega arith in
    let q : w / 16777216 % 256 ≡ w / 256 / 256 / 256 % 256 = omega arith in
    rw (← p, ← q)

eqb-swap : (x y : ℕ) → eqb x y ≡ eqb y x
eqb-swap x y = grind (arith, nat_tests)

-- the test of a front
pub starts_slice : (s o : List ℕ) → pointwise eqb o (take (length o) s) ≡ starts_with s o
starts_slice s [] = refl
starts_slice [] (x ∷ o) = refl
starts_slice (y ∷ s) (x ∷ o) = ap₂ ◌&&◌ (eqb-swap x y) (starts_slice s o)
