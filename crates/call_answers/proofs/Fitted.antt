-- The answer of a call that writes where there is room.
use mathlib.Core.Path.{◌≡◌, sym, subst}
use mathlib.Core.Bool.{false, true, false≢true}
use mathlib.Core.List.{List}
use Prim.Native.Nat.{ℕ, ◌≤◌, ◌<◌}
use native.Mathlib.Omega.{arith}
use lib.Dec.{leb}
use lib.ListN.{length}
use borrow.Author.Tests.{leb-true, leb-false}
use Rattle.std.specs.Prelude.{Result, cond, Ok, Err, IsErrAnd}
use Rattle.stops.specs.declared.Stop.{Stop}
use Rattle.stops.specs.declared.Stop.TheVariants.{Output}
use Rattle.stops.proofs.Handed.{handed}
use Rattle.lists.proofs.Tests.{cases, truth}
use Rattle.archive_cells.specs.Fitted.{Fitted}
use Rattle.call_answers.specs.Answers.{Outcome, bytes, Answered}
use Rattle.call_answers.proofs.Answers.{no_room, done}

module _ {o : Outcome} {xs l m : List ℕ} {n : ℕ} (e : o ≡ bytes xs) (f : Fitted xs l m n) (s : length m ≡ length l) where
  short : length m < n → Answered o l m (Err Output)
  short h =
      let k : length l < length xs = omega (arith, h, s, f.count) in
      subst (λ (x : List ℕ). Answered o l x (Err Output)) (sym (f.short k)) (no_room l e k)

  enough : n ≤ length m → Answered o l m (Ok n)
  enough h =
      let k : length xs ≤ length l = omega (arith, h, s, f.count) in
      done e k (record { count = f.count; same = s; list = f.fits k })

  pub fitted : Answered o l m (cond (leb n (length m)) (Ok n) (Err Output))
  fitted = cases (truth (leb n (length m)))
      (λ t. rw t (enough (leb-true n (length m) t)))
      (λ t. rw t (short (leb-false n (length m) t)))

-- Where `fitting` lets a call go on, its output has room.
pub has_room : {k n m : ℕ} → Ok k ≡ cond (leb n m) (Ok n) (Err Output) → n ≤ m
has_room {k} {n} {m} e = cases (truth (leb n m))
    (leb-true n m)
    (λ t. let u = rw t at e in let z : false ≡ true = cc in absurd (false≢true z))

lacks_room : {e : Stop} {n m : ℕ} → Err e ≡ cond (leb n m) (Ok n) (Err Output) → (m < n) × (e ≡ Output)
lacks_room {e} {n} {m} h = cases (truth (leb n m))
    (λ t. let u = rw t at h in let z : false ≡ true = cc in absurd (false≢true z))
    (λ t. let u = rw t at h in (leb-false n m t, cc))

-- Where it stops a call, the call stopped for want of room.
pub unfitted : {o : Outcome} {xs l : List ℕ} {r : Result ℕ Stop} {e : Stop} {n : ℕ} → o ≡ bytes xs → length xs ≡ n → IsErrAnd r (λ y. y ≡ e) → Err e ≡ cond (leb n (length l)) (Ok n) (Err Output) → Answered o l l r
unfitted {xs = xs} {l = l} {r = r} q c h e =
    let k = lacks_room e in
    let short : length l < length xs = omega (arith, k.0, c) in
    rw (handed r h) (rw k.1 (no_room l q short))
