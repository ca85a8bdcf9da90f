-- Codes raised one after the other, and put into a column.
use mathlib.Core.Path.{◌≡◌, refl, sym, ap, subst, ◌∙◌}
use mathlib.Core.Logic.{◌≢◌}
use mathlib.Core.List.{List, [], ◌∷◌, ◌++◌, map}
use Prim.Native.Nat.{ℕ, zero, suc, ◌+◌, ◌*◌, ◌≤◌, ◌<◌}
use native.Mathlib.Omega.{arith}
use lib.Dec.{eqb}
use lib.ListN.{length, get_or, take, drop, set, length-set, length-map}
use lib.Seq.{get_or-set_same, get_or-set_other, get_or-drop, ext_get_or, take_all}
use borrow.Author.Tests.{eqb-true, eqb-false}
use Rattle.lists.proofs.Tests.{cases, truth}
use Rattle.lists.proofs.Places.{map_at}
use Rattle.fields.specs.Words.{word_at, words_at}
use Rattle.rows_columns.proofs.Parts.{part-here, part-other}
use Rattle.family_slots.specs.Slots.{Small}
use Rattle.family_columns.specs.Raised.{entry_of, raised, PutInto}

pub entry-word : (s : List ℕ) (z at a : ℕ) → a < z → entry_of (words_at s z at) a ≡ word_at s (at + 4 * a)
unfolding words_at
entry-word s zero at a h = absurd (omega (arith, h))
entry-word s (suc z) at zero h = let e : at ≡ at + 4 * 0 = omega arith in ap (word_at s) e
entry-word s (suc z) at (suc a) h = let e : at + 4 + 4 * a ≡ at + 4 * suc a = omega arith in entry-word s z (at + 4) a (omega (arith, h)) ∙ ap (word_at s) e

pub record Raising (s : List ℕ) (z at : ℕ) (codes₀ codes : List ℕ) (i : ℕ) : Type 0 where
  pub upto : i ≤ length codes₀
  pub size : length codes ≡ length codes₀
  pub done : (k : ℕ) → k < i → get_or codes k 0 ≡ entry_of (words_at s z at) (get_or codes₀ k 0)
  pub left : (k : ℕ) → i ≤ k → get_or codes k 0 ≡ get_or codes₀ k 0

pub raising_start : (s : List ℕ) (z at : ℕ) (codes : List ℕ) → Raising s z at codes codes 0
raising_start s z at codes = record { upto = omega arith; size = refl; done = λ k h. absurd (omega (arith, h)); left = λ k h. refl }

module _ {s : List ℕ} {z at : ℕ} {codes₀ codes : List ℕ} {i : ℕ} (r : Raising s z at codes₀ codes i) where
  pub raising-more : {v : ℕ} → i < length codes₀ → get_or codes₀ i 0 < z → v ≡ word_at s (at + 4 * get_or codes i 0) → Raising s z at codes₀ (set codes i v) (i + 1)
  raising-more {v} h g e =
      let own = r.left i (omega arith) in
      let w : v ≡ entry_of (words_at s z at) (get_or codes₀ i 0) = e ∙ ap (λ (a : ℕ). word_at s (at + 4 * a)) own ∙ sym (entry-word s z at (get_or codes₀ i 0) g) in
      record {
        upto = omega (arith, h);
        size = length-set codes i v ∙ r.size;
        done = λ k m. cases (truth (eqb k i))
            (λ t. rw (eqb-true k i t) (get_or-set_same codes i v 0 (omega (arith, h, r.size)) ∙ w))
            (λ t. let n : k ≢ i = eqb-false k i t in get_or-set_other codes i k v 0 n ∙ r.done k (omega (arith, m, n)));
        left = λ k m. let n : k ≢ i = λ q. omega (arith, q, m) in get_or-set_other codes i k v 0 n ∙ r.left k (omega (arith, m));
      }

  pub raising-done : length codes₀ ≤ i → codes ≡ raised s z at codes₀
  unfolding raised
  raising-done h = ext_get_or 0 codes (map (entry_of (words_at s z at)) codes₀) (r.size ∙ sym (length-map codes₀ (entry_of (words_at s z at))))
      (λ k m. r.done k (omega (arith, m, r.size, h)) ∙ sym (map_at (entry_of (words_at s z at)) 0 0 codes₀ k (omega (arith, m, r.size))))

-- ---- a column

small-append : (xs ys : List ℕ) → Small xs → Small ys → Small (xs ++ ys)
small-append [] ys a b i = b i
small-append (x ∷ xs) ys a b zero = a zero
small-append (x ∷ xs) ys a b (suc i) = small-append xs ys (λ j. a (suc j)) b i

small-take : (n : ℕ) (l : List ℕ) → Small l → Small (take n l)
small-take zero l a i = omega arith
small-take (suc n) [] a i = omega arith
small-take (suc n) (x ∷ l) a zero = a zero
small-take (suc n) (x ∷ l) a (suc i) = small-take n l (λ j. a (suc j)) i

small-drop : (n : ℕ) (l : List ℕ) → Small l → Small (drop n l)
small-drop n l a i = rw (get_or-drop n l i 0) (a (n + i))

module _ (columns p codes : List ℕ) (c a k : ℕ) (ea : a ≡ c * 1024) (ek : length p ≡ k) (few : k ≤ 1024) (room : a + k ≤ length columns) (is : p ≡ codes) where
  abbrev over : List ℕ
  over = take a columns ++ (p ++ drop k (drop a columns))

  pub put-into : length over ≡ length columns → PutInto codes columns over c
  put-into e = record {
    size = e;
    here = part-here columns p c a k ea ek few room (length codes) (omega (arith, ek, ap length is)) ∙ take_all (length codes) p (omega (arith, ap length is)) ∙ is;
    others = λ t m q h. part-other columns p c a k ea ek few room t m h q;
    small = λ f g. small-append (take a columns) (p ++ drop k (drop a columns)) (small-take a columns f) (small-append p (drop k (drop a columns)) (subst Small (sym is) g) (small-drop k (drop a columns) (small-drop a columns f)));
  }
