-- `rows_ready::blanks` meets its contract: with a row there is none.
use mathlib.Core.Path.{◌≡◌, refl}
use Prim.Native.Nat.{ℕ, zero, suc}
use Rattle.rows_ready.specs.Blank.{blanks}
use Rattle.rows_ready.proofs.blanks.Goals as goal

blanks-some : (n : ℕ) → (n ≡ 0 → ⊥) → 0 ≡ blanks n
blanks-some zero h = absurd (h refl)
blanks-some (suc n) h = refl

pub returns : goal.returns
returns c = blanks-some _ c.if-n-eq0.false
