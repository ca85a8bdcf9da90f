-- Reading one thing after another, and the places at which the code goes on.
use mathlib.Core.Path.{◌≡◌, refl, sym, ap, ◌∙◌, subst}
use mathlib.Core.Bool.{Bool, true, false, false≢true}
use mathlib.Core.List.{List, ◌∷◌}
use Prim.Native.Nat.{ℕ, ◌+◌, ◌≤◌, ◌<◌}
use native.Mathlib.Omega.{arith}
use lib.Dec.{leb}
use lib.ListN.{length, drop, length-drop}
use lib.Seq.{drop-drop}
use borrow.Author.Tests.{le-leb, lt-leb, leb-true}
use Rattle.std.specs.Prelude.{Option, Some, None, Result}
use Rattle.std.specs.Option.{ok_or}
use Rattle.stops.specs.declared.Stop.{Stop}
use Rattle.stops.specs.Numbers.{number}
use Rattle.std.specs.Prelude.{Err, Ok}
use Rattle.fields_walk.specs.Parsed.{Parsed, stop, got, and_then, stop_unless, consed}
use Rattle.fields_walk.specs.Fields.{room}
use Rattle.fields_walk.specs.Walked.{Says, Walked, Tells, Tested}

-- a reader of things
abbrev pub Reader : Type 0 → Type 0
Reader A = List ℕ → Parsed A

module _ {A B : Type 0} {p : Parsed A} (next : A → Reader B) where
  pub then_on : {v : A} {rest : List ℕ} → p ≡ got v rest → and_then p next ≡ next v rest
  then_on e = ap (λ (q : Parsed A). and_then q next) e

  pub then_off : {n : ℕ} → p ≡ stop n → and_then p next ≡ stop n
  then_off e = ap (λ (q : Parsed A). and_then q next) e

pub then_assoc : {A B C : Type 0} (p : Parsed A) (g : A → Reader B) (h : B → Reader C)
    → and_then (and_then p g) h ≡ and_then p (λ v rest. and_then (g v rest) h)
then_assoc (stop n) g h = refl
then_assoc (got v rest) g h = refl

-- reading goes on with a thing made of two as with the two
pub then_made : {A B C D : Type 0} (make : A → B → C) (p : Parsed A) (g : A → Reader B) (h : C → Reader D)
    → and_then p (λ a rest. and_then (g a rest) (λ b rest'. h (make a b) rest')) ≡ and_then (and_then p (λ a rest. and_then (g a rest) (λ b rest'. got (make a b) rest'))) h
then_made make (stop n) g h = refl
then_made make (got a rest) g h = sym (then_assoc (g a rest) (λ b. got (make a b)) h)

-- what came through two parts came through each, and a test that was passed
abbrev is_got : {A : Type 0} → Parsed A → Bool
is_got (stop n) = false
is_got (got v rest) = true

pub through : {A B : Type 0} (p : Parsed A) (next : A → Reader B) {w : B} {end : List ℕ} → and_then p next ≡ got w end
    → (v : A) × (rest : List ℕ) × (p ≡ got v rest) × (next v rest ≡ got w end)
through (stop n) next e = absurd (false≢true (ap is_got e))
through (got v rest) next e = (v, rest, refl, e)

pub passed : {A : Type 0} (b : Bool) (p : Parsed A) (n : ℕ) {w : A} {end : List ℕ} → stop_unless b n p ≡ got w end → (b ≡ true) × (p ≡ got w end)
passed true p n e = (refl, e)
passed false p n e = absurd (false≢true (ap is_got e))

-- the same of a value made of what was read, of a value that was tested, and of two made into one
pub through_map : {A B : Type 0} (g : A → B) (p : Parsed A) {w : B} {end : List ℕ} → and_then p (λ v rest. got (g v) rest) ≡ got w end
    → (v : A) × (p ≡ got v end) × (g v ≡ w)
through_map g (stop n) e = absurd (false≢true (ap is_got e))
through_map g (got v rest) e = (v, ap (got v) cc, cc)

pub through_test : {A : Type 0} (t : A → Bool) (n : ℕ) (p : Parsed A) {w : A} {end : List ℕ} → and_then p (λ v rest. stop_unless (t v) n (got v rest)) ≡ got w end
    → (p ≡ got w end) × (t w ≡ true)
through_test t n (stop m) e = absurd (false≢true (ap is_got e))
through_test t n (got v rest) {w} e = let r = passed (t v) (got v rest) n e in let q : w ≡ v = cc r.1 in (r.1, ap t q ∙ r.0)

pub through_pair : {A B C : Type 0} (make : A → B → C) (p : Parsed A) (g : A → Reader B) {c : C} {end : List ℕ}
    → and_then p (λ a rest. and_then (g a rest) (λ b rest'. got (make a b) rest')) ≡ got c end
    → (a : A) × (b : B) × (rest : List ℕ) × (p ≡ got a rest) × (g a rest ≡ got b end) × (make a b ≡ c)
through_pair make p g e =
    let t = through p (λ a rest. and_then (g a rest) (λ b rest'. got (make a b) rest')) e in
    let u = through_map (make t.0) (g t.0 t.1) t.3 in
    (t.0, u.0, t.1, t.2, u.1, u.2)

abbrev pub behind : {A : Type 0} → (A → Reader (List A)) → A → Reader (List A)
behind more x rest = and_then (more x rest) (λ xs rest'. got (x ∷ xs) rest')

-- a list that was read was read thing by thing
module _ {A : Type 0} (more : A → Reader (List A)) where
  pub cons_back : {p : Parsed A} {x : A} {xs : List A} {rest end : List ℕ} → p ≡ got x rest → more x rest ≡ got xs end → consed p more ≡ got (x ∷ xs) end
  cons_back {x = x} e f = then_on (behind more) e ∙ then_on (λ xs rest'. got (x ∷ xs) rest') f

  pub cons_forth : (p : Parsed A) {xs : List A} {end : List ℕ} → consed p more ≡ got xs end
      → (x : A) × (ys : List A) × (rest : List ℕ) × (p ≡ got x rest) × (more x rest ≡ got ys end) × (xs ≡ x ∷ ys)
  cons_forth p e = let t = through_pair ◌∷◌ p more e in (t.0, t.1, t.2, t.3, t.4, sym t.5)

-- ---- so many bytes

module _ (width : ℕ) (l : List ℕ) where
  pub room-short : length l < width → room width l ≡ stop 2
  unfolding room
  room-short h = rw (lt-leb width (length l) h)

  pub room_whole : width ≤ length l → room width l ≡ got tt (drop width l)
  unfolding room
  room_whole h = rw (le-leb width (length l) h)

  pub room-got : {u : Unit {0}} {rest : List ℕ} → room width l ≡ got u rest → (width ≤ length l) × (rest ≡ drop width l)
  unfolding room
  room-got e = let t = passed (leb width (length l)) (got tt (drop width l)) 2 e in (leb-true width (length l) t.0, cc)

  -- and their value
  pub value_got : {A : Type 0} (value : List ℕ → A) {v : A} {rest : List ℕ} → and_then (room width l) (λ u rest. got (value l) rest) ≡ got v rest
      → (width ≤ length l) × (rest ≡ drop width l) × (v ≡ value l)
  value_got value e =
      let t = through_map (λ u. value l) (room width l) e in
      let r = room-got t.1 in
      (r.0, r.1, sym t.2)

-- what is left tells the place
pub place_is : (s : List ℕ) {j k : ℕ} → drop k s ≡ drop j s → k ≤ length s → j ≤ length s → k ≡ j
place_is s {j} {k} e h l = omega (arith, ap length e, length-drop k s, length-drop j s)

-- so many bytes from a place on
module _ (s : List ℕ) (at width : ℕ) (h : at ≤ length s) where
  pub place_short : length s < at + width → room width (drop at s) ≡ stop 2
  place_short k = room-short width (drop at s) (rw length-drop (omega arith))

  pub place-whole : at + width ≤ length s → Says s (room width (drop at s)) (Ok (at + width))
  place-whole k = (tt, room_whole width (drop at s) (rw length-drop (omega arith)) ∙ rw drop-drop, k)

  pub value_rest : {A : Type 0} (value : List ℕ → A) {v : A} {rest : List ℕ} → and_then (room width (drop at s)) (λ u rest. got (value (drop at s)) rest) ≡ got v rest
      → (at + width ≤ length s) × (rest ≡ drop (at + width) s) × (v ≡ value (drop at s))
  value_rest value e =
      let r = value_got width (drop at s) value e in
      (omega (arith, r.0, length-drop at s), r.1 ∙ drop-drop width at s, r.2)

  pub place-got : {u : Unit {0}} {k : ℕ} → room width (drop at s) ≡ got u (drop k s) → k ≤ length s → (at + width ≤ length s) × (k ≡ at + width)
  place-got {u} {k} e l =
      let r = room-got width (drop at s) e in
      let w : at + width ≤ length s = omega (arith, r.0, length-drop at s) in
      (w, place_is s (r.1 ∙ drop-drop width at s) l w)

-- what the code saw its answer to be
pub seen : {A : Type 0} {s : List ℕ} {p : Parsed A} {w v : Result ℕ Stop} → w ≡ v → Walked s p w → Says s p v
seen {A} {s} {p} e h = subst (Says s p) e h.says

-- a field's test, for which the caller has a stop: it passed, or not
pub tested_at : {A : Type 0} {s : List ℕ} {p : Parsed A} {n k : ℕ} {o : Option ℕ} → o ≡ Some k → Tested s n p (Ok o) → Says s p (Ok k)
tested_at {A} {s} {p} {n} e t = subst (λ (o : Option ℕ). Tells s n p (Ok o)) e t.tells

pub tested_off : {A : Type 0} {s : List ℕ} {p : Parsed A} (o : Option ℕ) (d e : Stop) → Err e ≡ ok_or o d → Tested s (number d) p (Ok o) → p ≡ stop (number e)
tested_off None d e h t = let g : d ≡ e = cc h in t.tells ∙ ap (λ f. stop (number f)) g
tested_off (Some k) d e h t = cc h

pub walked_as : {A : Type 0} {s : List ℕ} {p q : Parsed A} {w : Result ℕ Stop} → p ≡ q → Walked s q w → Walked s p w
walked_as {s = s} {w = w} e h = record { says = subst (λ r. Says s r w) (sym e) h.says }

-- the same of a value made of what was read
pub walked-map : {A B : Type 0} {s : List ℕ} {p : Parsed A} {w : Result ℕ Stop} (g : A → B) → Walked s p w → Walked s (and_then p (λ v rest. got (g v) rest)) w
walked-map {A} {B} {s} {p} {w} g h = record { says = go w h.says }
  where
    go : (w : Result ℕ Stop) → Says s p w → Says s (and_then p (λ v rest. got (g v) rest)) w
    go (Err n) e = then_off (λ v rest. got (g v) rest) e
    go (Ok k) e = (g e.0, then_on (λ v rest. got (g v) rest) e.1, e.2)
