-- Rows of one key: all are one group.
use mathlib.Core.Path.{◌≡◌, refl, sym, ap, ◌∙◌}
use mathlib.Core.Bool.{true, false}
use mathlib.Core.List.{List, [], ◌∷◌}
use Prim.Native.Nat.{ℕ, ◌≤◌}
use Rattle.lists.specs.Lists.{◌∈◌}
use Rattle.lists.specs.Order.{earlier, same}
use Rattle.rows_deals.specs.Deals.{Zeros}
use Rattle.rows_order.specs.Index.{arranged}
use Rattle.rows_order.specs.Few.{Ordered}
use Rattle.rows_order.proofs.Numbers.{numbers, numbers_in}
use Rattle.rows_order.proofs.Dealt.{same-earlier}
use Rattle.rows_order.proofs.Sorted.{sorted_unique, arranged_sorted}
use Rattle.rows_slots.specs.Slots.{crowds, loners, packed, code_in, slot_from, lone_from}
use Rattle.rows_slots.proofs.Last.{not_self}
use Rattle.rows_slots.proofs.Marks.{slot-arranged, lone-arranged}
use Rattle.rows_slots.proofs.Split.{slot_same, lone_same}
use Rattle.rows_slots.proofs.Whole.{zero_at}

neither_same : (a b : List ℕ) → earlier a b ≡ false → earlier b a ≡ false → same a b ≡ true
neither_same a b h k = same-earlier a b ∙ rw (h, k) refl

module _ (keys : ℕ → List ℕ) (alike : (x y : ℕ) → keys x ≡ keys y) (n : ℕ) (column : List ℕ) (zeros : Zeros column) (least : ℕ) (low : 1 ≤ least) (high : least ≤ 2) where
  not-before : (x y : ℕ) → earlier (keys x) (keys y) ≡ false
  not-before x y = not_self (keys x) (keys y) (alike x y)

  code-none : (x y : ℕ) → earlier (code_in column x) (code_in column y) ≡ false
  code-none x y = not_self (code_in column x) (code_in column y) (rw (zero_at column x zeros, zero_at column y zeros) refl)

  ordered : (l : List ℕ) → Ordered keys l
  ordered [] = tt
  ordered (x ∷ l) = (λ y m. not-before y x, ordered l)

  arranged-one : arranged keys n ≡ numbers n
  arranged-one = sorted_unique keys n (arranged_sorted keys n) record { ordered = ordered (numbers n); below = λ x m. numbers_in n m; parts = λ z h. refl }

  told : (x y : ℕ) → x ∈ numbers n → y ∈ numbers n → same (code_in column x) (code_in column y) ≡ same (keys x) (keys y)
  told x y i j =
      neither_same (code_in column x) (code_in column y) (code-none x y) (code-none y x) ∙ sym (neither_same (keys x) (keys y) (not-before x y) (not-before y x))

  pub slot-one : slot_from (code_in column) least true (numbers n) ≡ packed (crowds least keys n)
  slot-one = slot_same (code_in column) keys least true (numbers n) told ∙ ap (slot_from keys least true) (sym arranged-one) ∙ slot-arranged keys least low high n

  pub lone-one : lone_from (code_in column) least true (numbers n) ≡ loners least keys n
  lone-one = lone_same (code_in column) keys least true (numbers n) told ∙ ap (lone_from keys least true) (sym arranged-one) ∙ lone-arranged keys least low high n
