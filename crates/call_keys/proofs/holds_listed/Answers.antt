-- `call_keys::holds_listed` meets its contract: `any` tests each listed set.
use mathlib.Core.Path.{◌≡◌, refl, ap, ◌∙◌}
use mathlib.Core.Bool.{Bool, ◌||◌}
use mathlib.Core.List.{List, [], ◌∷◌}
use Prim.Native.Nat.{ℕ}
use borrow.Author.Rules.{rules}
use Rattle.std.specs.List.{list_any}
use Rattle.std.proofs.lemmas.Iterator.{YieldsList-from_slice}
use Rattle.std.proofs.lemmas.Iterator.Search.{any_from_yields_List}
use Rattle.lists.specs.Lists.{some}
use Rattle.lattice.specs.Sets.{holds}
use Rattle.call_keys.proofs.holds_listed.Goals as goal

any-some : (p : ℕ → Bool) (l : List ℕ) → list_any p l ≡ some p l
any-some p [] = refl
any-some p (x ∷ l) = ap (λ (b : Bool). p x || b) (any-some p l)

pub returns : goal.returns
returns c =
    let a = c.args in
    any_from_yields_List (holds 32 a.set) c.any.new.self _ c.any.result c.any.ensures.ran (YieldsList-from_slice a.list.now (search rules)) (λ x b q k. (search rules, search rules))
    ∙ any-some (holds 32 a.set) a.list.now
