-- Blocks of 32 words in a flat list: one is written, and the others are as they were.
use mathlib.Core.Path.{◌≡◌, sym, ap, ◌∙◌}
use mathlib.Core.Logic.{◌≢◌}
use mathlib.Core.List.{List, ◌++◌}
use Prim.Native.Nat.{ℕ, ◌+◌, ◌-◌, ◌*◌, ◌≤◌, ◌<◌}
use native.Mathlib.Omega.{arith}
use lib.Dec.{ltb}
use lib.ListN.{length, take, drop, take-append-drop, length-drop}
use lib.Seq.{length-take-le, drop-append-add, drop-drop, take-append-le, take_all, drop_at}
use borrow.Author.Tests.{ltb-true, ltb-false}
use Rattle.lists.proofs.Tests.{cases, truth}
use Rattle.lists.proofs.Parts.{part-front}
use Rattle.rows_alone.specs.Alone.{words_of}

pub block_length : (l : List ℕ) (s : ℕ) → s * 32 + 32 ≤ length l → length (words_of l s) ≡ 32
block_length l s room = length-take-le 32 (drop (s * 32) l) (rw length-drop (omega (arith, room)))

-- p is written over block s of l
module _ (l p : List ℕ) (s a k : ℕ) (ea : a ≡ s * 32) (whole : k ≡ 32) (ek : length p ≡ k) (room : s * 32 + 32 ≤ length l) where
  abbrev after : List ℕ
  after = p ++ drop k (drop a l)

  abbrev pub blocked : List ℕ
  blocked = take a l ++ (p ++ drop k (drop a l))

  front : length (take a l) ≡ a
  front = length-take-le a l (omega (arith, ea, room))

  pub block_here : words_of blocked s ≡ p
  block_here =
      ap (λ (n : ℕ). take 32 (drop n blocked)) (sym ea)
      ∙ ap (take 32) (drop_at (take a l) after a front)
      ∙ take-append-le 32 p (drop k (drop a l)) (omega (arith, ek, whole))
      ∙ take_all 32 p (omega (arith, ek, whole))

  below : (t : ℕ) → t < s → words_of blocked t ≡ words_of l t
  below t b =
      let w : t * 32 + 32 ≤ length (take a l) = omega (arith, front, ea, b) in
      part-front (take a l) after (t * 32) 32 w
      ∙ sym (part-front (take a l) (drop a l) (t * 32) 32 w)
      ∙ ap (λ (z : List ℕ). take 32 (drop (t * 32) z)) (take-append-drop a l)

  above : (t : ℕ) → s < t → words_of blocked t ≡ words_of l t
  above t b =
      let m = t * 32 - a - k in
      let e : t * 32 ≡ length (take a l) + (length p + m) = omega (arith, front, ea, ek, whole, b) in
      let f : a + (k + m) ≡ t * 32 = omega (arith, ea, whole, b) in
      ap (take 32)
      (ap (λ (n : ℕ). drop n blocked) e
      ∙ drop-append-add (take a l) after (length p + m)
      ∙ drop-append-add p (drop k (drop a l)) m
      ∙ drop-drop m k (drop a l)
      ∙ drop-drop (k + m) a l
      ∙ ap (λ (n : ℕ). drop n l) f)

  pub block-other : (t : ℕ) → t ≢ s → words_of blocked t ≡ words_of l t
  block-other t n = cases (truth (ltb t s)) (λ b. below t (ltb-true t s b)) (λ b. above t (omega (arith, ltb-false t s b, n)))
