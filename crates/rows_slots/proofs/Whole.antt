-- The groups of the empty set: all rows are one.
use mathlib.Core.Path.{◌≡◌, refl, sym, ap, ◌∙◌}
use mathlib.Core.Bool.{true, false}
use mathlib.Core.List.Memᴰ
use mathlib.Core.List.{List, [], ◌∷◌}
use Prim.Native.Nat.{ℕ, ◌≤◌, ◌<◌}
use lib.Dec.{ltb}
use lib.ListN.{length, get_or, get_or-eq_default}
use borrow.Author.Tests.{ltb-true, ltb-false}
use Rattle.lists.specs.Lists.{◌∈◌}
use Rattle.lists.specs.Order.{earlier, same}
use Rattle.lists.proofs.Tests.{cases, truth}
use Rattle.rows_deals.specs.Deals.{Zeros}
use Rattle.rows.specs.Rows.{cut}
use Rattle.rows_order.specs.Index.{key, Valid, arranged}
use Rattle.rows_order.proofs.Numbers.{numbers, numbers_in}
use Rattle.rows_order.specs.Few.{Ordered}
use Rattle.rows_order.proofs.Dealt.{same-earlier}
use Rattle.rows_order.proofs.Sorted.{sorted_unique, arranged_sorted}
use Rattle.rows_slots.specs.Slots.{crowds, loners, packed, code_in, slot_from, lone_from}
use Rattle.rows_slots.proofs.Last.{key-none, not_self}
use Rattle.rows_slots.proofs.Marks.{slot-arranged, lone-arranged}
use Rattle.rows_slots.proofs.Split.{slot_same, lone_same}

-- rows of one key are in order, however they stand
same_ordered : (keys : ℕ → List ℕ) (n : ℕ) → ((x y : ℕ) → x < n → y < n → earlier (keys x) (keys y) ≡ false) → (l : List ℕ) → ((x : ℕ) → x ∈ l → x < n) → Ordered keys l
same_ordered keys n h [] b = tt
same_ordered keys n h (x ∷ l) b = (λ y m. h y x (b y (Memᴰ.tail m)) (b x (Memᴰ.head refl)), same_ordered keys n h l (λ y m. b y (Memᴰ.tail m)))

neither_same : (a b : List ℕ) → earlier a b ≡ false → earlier b a ≡ false → same a b ≡ true
neither_same a b h k = same-earlier a b ∙ rw (h, k) refl

pub zero_at : (l : List ℕ) (x : ℕ) → Zeros l → get_or l x 0 ≡ 0
zero_at l x z = cases (truth (ltb x (length l))) (λ t. z x (ltb-true x (length l) t)) (λ t. get_or-eq_default l 0 (ltb-false x (length l) t))

module _ (dims n : ℕ) (ws column : List ℕ) (v : Valid dims (cut dims n ws)) (least : ℕ) (low : 1 ≤ least) (high : least ≤ 2) (zc : Zeros column) where
  abbrev xs : List (List ℕ)
  xs = cut dims n ws

  cell-none : (x y : ℕ) → x < n → y < n → earlier (key 0 xs x) (key 0 xs y) ≡ false
  cell-none x y h k = not_self (key 0 xs x) (key 0 xs y) (key-none dims n ws v x y h k)

  code-none : (x y : ℕ) → earlier (code_in column x) (code_in column y) ≡ false
  code-none x y = not_self (code_in column x) (code_in column y) (rw (zero_at column x zc, zero_at column y zc) refl)

  arranged-none : arranged (key 0 xs) n ≡ numbers n
  arranged-none = sorted_unique (key 0 xs) n (arranged_sorted (key 0 xs) n)
      record { ordered = same_ordered (key 0 xs) n cell-none (numbers n) (λ x m. numbers_in n m); below = λ x m. numbers_in n m; parts = λ z h. refl }

  told_none : (x y : ℕ) → x ∈ numbers n → y ∈ numbers n → same (code_in column x) (code_in column y) ≡ same (key 0 xs x) (key 0 xs y)
  told_none x y i j =
      let h = numbers_in n i in
      let k = numbers_in n j in
      neither_same (code_in column x) (code_in column y) (code-none x y) (code-none y x) ∙ sym (neither_same (key 0 xs x) (key 0 xs y) (cell-none x y h k) (cell-none y x k h))

  pub slot-none : slot_from (code_in column) least true (numbers n) ≡ packed (crowds least (key 0 xs) n)
  slot-none = slot_same (code_in column) (key 0 xs) least true (numbers n) told_none ∙ ap (slot_from (key 0 xs) least true) (sym arranged-none) ∙ slot-arranged (key 0 xs) least low high n

  pub lone-none : lone_from (code_in column) least true (numbers n) ≡ loners least (key 0 xs) n
  lone-none = lone_same (code_in column) (key 0 xs) least true (numbers n) told_none ∙ ap (lone_from (key 0 xs) least true) (sym arranged-none) ∙ lone-arranged (key 0 xs) least low high n
