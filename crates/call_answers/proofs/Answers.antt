-- The three ways in which a call that writes an output ends, each from what its outcome is; and what a call wrote.
use mathlib.Core.Path.{◌≡◌, refl, sym, ap, subst, ◌∙◌}
use mathlib.Core.Bool.{Bool, true, false, false≢true}
use mathlib.Core.List.{List}
use Prim.Native.Nat.{ℕ, ◌≤◌, ◌<◌}
use lib.Dec.{leb}
use lib.ListN.{length, take}
use borrow.Author.Tests.{le-leb, lt-leb}
use Rattle.std.specs.Prelude.{Result, Ok, Err, IsErrAnd}
use Rattle.stops.specs.declared.Stop.{Stop}
use Rattle.stops.specs.declared.Stop.TheVariants.{Output}
use Rattle.stops.specs.Numbers.{number}
use Rattle.stops.proofs.Handed.{handed}
use Rattle.lists.proofs.Tests.{cases, truth}
use Rattle.fields.specs.Written.{Wrote}
use Rattle.fields.specs.WrittenLaws.{take_written}
use Rattle.call_answers.specs.Answers.{Outcome, stop, bytes, refuse_unless, within, answer_of, left_of, Answered}

-- stopped for its input
pub stopped : {o : Outcome} {e : Stop} (l : List ℕ) → o ≡ stop (number e) → Answered o l l (Err e)
stopped l q = rw q (record { answer = refl; output = refl })

-- stopped where a `?` hands its stop on
pub stopped_on : {o : Outcome} {r : Result ℕ Stop} (l : List ℕ) (e : Stop) → IsErrAnd r (λ y. y ≡ e) → o ≡ stop (number e) → Answered o l l r
stopped_on {r = r} l e h q = rw (handed r h) (stopped l q)

-- stopped for want of room
pub no_room : {o : Outcome} {xs : List ℕ} (l : List ℕ) → o ≡ bytes xs → length l < length xs → Answered o l l (Err Output)
no_room {xs = xs} l e h = rw e (record { answer = simp (lt-leb (length xs) (length l) h) refl; output = simp (lt-leb (length xs) (length l) h) refl })

-- carried out
pub done : {o : Outcome} {xs l m : List ℕ} {n : ℕ} → o ≡ bytes xs → length xs ≤ length l → Wrote xs l m n → Answered o l m (Ok n)
done {xs = xs} {l = l} e h w = rw e (record { answer = simp (le-leb (length xs) (length l) h) (ap Ok w.count); output = simp (le-leb (length xs) (length l) h) w.list })

-- the same outcome by another name
pub answered_as : {o p : Outcome} {l m : List ℕ} {r : Result ℕ Stop} → o ≡ p → Answered p l m r → Answered o l m r
answered_as {l = l} {m = m} {r = r} e a = subst (λ (q : Outcome). Answered q l m r) (sym e) a

-- the bytes that a call wrote, by the length that it returned, are its outcome
pub answered-bytes : {o : Outcome} {l m : List ℕ} {n : ℕ} → Answered o l m (Ok n) → o ≡ bytes (take n m)
answered-bytes {o} {l} {m} {n} a = go o a.answer a.output
  where
    go : (o : Outcome) → Ok n ≡ answer_of (within (length l) o) → m ≡ left_of (within (length l) o) l → o ≡ bytes (take n m)
    go (stop k) e f = let z : false ≡ true = cc in absurd (false≢true z)
    go (bytes xs) e f = cases (truth (leb (length xs) (length l)))
        (λ t. let k : length xs ≡ n = cc (rw t at e) in ap bytes (sym (take_written xs l n k) ∙ ap (take n) (sym (rw t at f))))
        (λ t. let u = rw t at e in let z : false ≡ true = cc in absurd (false≢true z))

-- a stop is no result
pub no_bytes : {n : ℕ} {x : List ℕ} → stop n ≡ bytes x → ⊥
no_bytes e = false≢true cc

-- an outcome that is no stop passed its test
pub passed : (b : Bool) (n : ℕ) (o : Outcome) {x : List ℕ} → refuse_unless b n o ≡ bytes x → (b ≡ true) × (o ≡ bytes x)
passed true n o e = (refl, e)
passed false n o e = absurd (no_bytes e)
