-- Fields of any value: only the length of what is left decides, so that one test for so many bytes answers for all of them.
use mathlib.Core.Path.{◌≡◌, refl, sym, ap, ◌∙◌, subst}
use mathlib.Core.Bool.{true, false, false≢true}
use mathlib.Core.List.{List, [], ◌∷◌}
use Prim.Native.Nat.{ℕ, zero, suc, ◌+◌, ◌*◌, ◌≤◌, ◌<◌}
use native.Mathlib.Nat.{zero-mul, suc-mul}
use native.Mathlib.Omega.{arith}
use lib.Dec.{leb}
use lib.ListN.{length, drop, length-drop}
use lib.Seq.{drop-drop}
use borrow.Author.Tests.{leb-true, leb-false}
use Rattle.lists.proofs.Tests.{cases, truth}
use Rattle.fields.specs.Words.{word_at}
use Rattle.fields_sums.specs.Twos.{sum_at}
use Rattle.std.specs.Prelude.{Result}
use Rattle.stops.specs.declared.Stop.{Stop}
use Rattle.stops.specs.Numbers.{number}
use Rattle.std.specs.Prelude.{Err, Ok}
use Rattle.fields_walk.specs.Parsed.{stop, got, and_then, many}
use Rattle.fields_walk.specs.Fields.{room, word, sum}
use Rattle.fields_walk.specs.Walked.{Says, Walked}
use Rattle.fields_walk.proofs.Steps.{Reader, then_on, then_off, room-short, room_whole, room-got}

-- what is read is so many bytes, of any value
pub record Any {A : Type 0} (f : Reader A) (width : ℕ) : Type 0 where
  pub short : (l : List ℕ) → length l < width → f l ≡ stop 2
  pub whole : (l : List ℕ) → width ≤ length l → (v : A) × (f l ≡ got v (drop width l))

pub any_as : {A : Type 0} {f : Reader A} {v w : ℕ} → v ≡ w → Any f v → Any f w
any_as {f = f} e a = subst (Any f) e a

-- no bytes; one value; one thing after another
pub any_none : {A : Type 0} (x : A) → Any (got x) 0
any_none x = record { short = λ l h. absurd (omega arith); whole = λ l h. (x, refl) }

pub any_value : {A : Type 0} (width : ℕ) (value : List ℕ → A) → Any (λ l. and_then (room width l) (λ u rest. got (value l) rest)) width
any_value width value = record {
  short = λ l h. then_off (λ u rest. got (value l) rest) (room-short width l h);
  whole = λ l h. (value l, then_on (λ u rest. got (value l) rest) (room_whole width l h));
}

pub any_then : {A B : Type 0} {f : Reader A} {g : A → Reader B} {v w : ℕ} → Any f v → ((x : A) → Any (g x) w) → Any (λ l. and_then (f l) g) (v + w)
any_then {A} {B} {f} {g} {v} {w} a b = record { short = short; whole = whole }
  where
    short : (l : List ℕ) → length l < v + w → and_then (f l) g ≡ stop 2
    short l h = cases (truth (leb v (length l)))
        (λ t. let r = a.whole l (leb-true v (length l) t) in
        then_on g r.1 ∙ (b r.0).short (drop v l) (rw length-drop (omega (arith, leb-true v (length l) t))))
        (λ t. then_off g (a.short l (leb-false v (length l) t)))

    whole : (l : List ℕ) → v + w ≤ length l → (x : B) × (and_then (f l) g ≡ got x (drop (v + w) l))
    whole l h =
        let r = a.whole l (omega arith) in
        let q = (b r.0).whole (drop v l) (rw length-drop (omega arith)) in
        (q.0, then_on g r.1 ∙ q.1 ∙ ap (got q.0) (drop-drop w v l))

pub any_word : Any word 4
unfolding word
any_word = any_value 4 (λ l. word_at l 0)

pub any_sum : Any sum 8
unfolding sum
any_sum = any_value 8 (λ l. sum_at l 0)

pub any_many : {A : Type 0} {f : Reader A} {w : ℕ} (n : ℕ) → Any f w → Any (many n f) (n * w)
unfolding many
any_many zero a = any_as (sym (zero-mul _)) (any_none [])
any_many {w = w} (suc n) a =
    let e : w + (n * w + 0) ≡ suc n * w = rw suc-mul (omega arith) in
    any_as e (any_then a (λ x. any_then (any_many n a) (λ xs. any_none (x ∷ xs))))

module _ {A : Type 0} {f : Reader A} {w : ℕ} (a : Any f w) where
  -- what was read had the bytes
  pub any_got : (l : List ℕ) {v : A} {rest : List ℕ} → f l ≡ got v rest → (w ≤ length l) × (rest ≡ drop w l)
  any_got l e = cases (truth (leb w (length l)))
      (λ t. let h = leb-true w (length l) t in let r = a.whole l h in let g = sym r.1 ∙ e in (h, cc))
      (λ t. let g = sym e ∙ a.short l (leb-false w (length l) t) in let z : false ≡ true = cc in absurd (false≢true z))

  -- a test for the bytes says what reading them says
  pub any_walked : {s : List ℕ} {l : List ℕ} {r : Result ℕ Stop} → Walked s (room w l) r → Walked s (f l) r
  any_walked {s} {l} {r} h = record { says = go r h.says }
    where
      go : (r : Result ℕ Stop) → Says s (room w l) r → Says s (f l) r
      go (Err n) e = cases (truth (leb w (length l)))
          (λ t. let g = sym e ∙ room_whole w l (leb-true w (length l) t) in let z : false ≡ true = cc in absurd (false≢true z))
          (λ t. let h = leb-false w (length l) t in let g = sym (room-short w l h) ∙ e in let z : 2 ≡ number n = cc in a.short l h ∙ ap stop z)
      go (Ok k) g = let r = room-got w l g.1 in let x = a.whole l r.0 in (x.0, x.1 ∙ ap (got x.0) (sym r.1), g.2)
