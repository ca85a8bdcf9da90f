-- A cell that no row falls in: 'no record', but for all ALL of an empty table.
use mathlib.Core.Path.{◌≡◌, refl, sym, ap, ap₂, ◌∙◌}
use mathlib.Core.Bool.{true, false}
use mathlib.Core.List.{List, [], ◌∷◌}
use Prim.Native.Nat.{ℕ, zero, suc}
use native.Mathlib.Omega.{arith}
use lib.Dec.{eqb}
use lib.IntN.{pos}
use lib.ListN.{length, replicate}
use borrow.Author.Tests.{eqb-true}
use Rattle.std.specs.Prelude.{Some, None}
use Rattle.lists.specs.Order.{same}
use Rattle.lists.proofs.Tests.{cases, truth, refuted}
use Rattle.lists.proofs.Order.{same-eq, same_refl}
use Rattle.cube.specs.Codes.{ALL, bit, set-of}
use Rattle.cube.proofs.Codes.{set-whole}
use Rattle.call_questions.specs.Questions.{looked, rowless}

-- the cell of the empty set is all ALL
whole_set : (c : List ℕ) → set-of c ≡ 0 → c ≡ replicate (length c) ALL
whole_set [] e = refl
whole_set (a ∷ c) e = cases (truth (eqb a ALL))
    (λ h. ap₂ ◌∷◌ (eqb-true a ALL h) (whole_set c (omega (arith, e))))
    (λ h. let f : bit (eqb a ALL) ≡ 1 = rw h in absurd (omega (arith, e, f)))

pub rowless-other : (d n : ℕ) (c : List ℕ) → (set-of c ≡ 0 → ⊥) → None ≡ looked (rowless d n c)
rowless-other d zero c h =
    let e : same c (replicate d ALL) ≡ false = refuted (λ f. h (ap set-of (same-eq c (replicate d ALL) f) ∙ set-whole d)) in
    rw e
rowless-other d (suc n) c h = refl

pub rowless-whole : (n : ℕ) (c : List ℕ) → n ≡ 0 → set-of c ≡ 0 → Some (record { sum = pos 0; count = 0; entry = 0 }) ≡ looked (rowless (length c) n c)
rowless-whole zero c h e =
    let f : same c (replicate (length c) ALL) ≡ true = ap (same c) (sym (whole_set c e)) ∙ same_refl c in
    rw f
rowless-whole (suc n) c h e = absurd (omega arith)
