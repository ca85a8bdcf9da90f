-- `call_search::cell_before` meets its contract: two tuples are in the order of their numbers one after the other, and those are the keys.
use mathlib.Core.Path.{◌≡◌, refl, sym, ap, ◌∙◌}
use mathlib.Core.List.{List, ◌∷◌}
use mathlib.Core.Bool.{Bool}
use Prim.Native.Nat.{ℕ}
use Rattle.std.proofs.Common.{Ordering}
use Rattle.std.specs.Prelude.{Option, Some}
use Rattle.std.specs.Ordering.{is_lt, is_some_and, nat_cmp, partial_ordering_then}
use Rattle.std.specs.Cmp.Lexicographic.{slice_partial_cmp}
use Rattle.std.specs.Cmp.Derive.{some_next}
use Rattle.lists.specs.Order.{earlier}
use Rattle.archive_entries.proofs.After.{earlier_lt}
use Rattle.call_search.proofs.cell_before.Goals as goal

abbrev compared : ℕ → ℕ → Option Ordering
compared a b = Some (nat_cmp a b)

earlier_tuple : (a b s u : ℕ) (x y : List ℕ) (r : Bool)
    → r ≡ is_some_and is_lt (partial_ordering_then (partial_ordering_then (compared a b) (compared s u)) (slice_partial_cmp compared x y)) → r ≡ earlier (a ∷ s ∷ x) (b ∷ u ∷ y)
earlier_tuple a b s u x y r h = earlier_lt (a ∷ s ∷ x) (b ∷ u ∷ y) r (h ∙ ap (is_some_and is_lt) (sym (some_next (compared a b) (compared s u) (slice_partial_cmp compared x y) refl refl)))

pub returns : goal.returns
returns c =
    let a = c.args in
    earlier_tuple c.size_of_set.result c.size_of_set-2.result c.set_of-set.result c.set_of-other.result a.mine.now a.cell.now c.lt.result c.lt.ensures
    ∙ rw (c.size_of_set.ensures, c.size_of_set-2.ensures, c.set_of-set.ensures, c.set_of-other.ensures) refl
