-- The ends of a field whose value is tested, of the header and of the check word.
use mathlib.Core.Path.{◌≡◌, ◌∙◌}
use mathlib.Core.Bool.{true, false, ◌&&◌, and-false}
use mathlib.Core.Logic.{◌↔◌}
use mathlib.Core.List.{List}
use Prim.Native.Nat.{ℕ, ◌+◌, ◌-◌, ◌≤◌, ◌<◌}
use native.Mathlib.Nat.{add-zero}
use native.Mathlib.Omega.{arith}
use lib.Dec.{eqb, leb, ltb}
use lib.ListN.{length, take, drop, length-drop}
use borrow.Author.Tests.{le-leb, lt-leb, lt-ltb, le-ltb, leb-true, ltb-true, eq-eqb, ne_eqb}
use Rattle.lists.proofs.Tests.{both, both_of}
use Rattle.fields.specs.Words.{word_at}
use Rattle.fields.specs.WordsLaws.{word_at_drop}
use Rattle.fields.specs.Opening.{starts_with}
use Rattle.fields_check.specs.Check.{check_of}
use Rattle.std.specs.Prelude.{Ok}
use Rattle.fields_walk.specs.Parsed.{Parsed, stop, got, and_then, stop_unless}
use Rattle.fields_walk.specs.Fields.{room, word, field, sizes, header, ended, close}
use Rattle.fields_walk.specs.Walked.{Says}
use Rattle.fields_walk.proofs.Steps.{then_on, then_off, through_test, place_is, value_rest}

-- a word at a place
pub word-at-place : (s : List ℕ) (at : ℕ) → word_at (drop at s) 0 ≡ word_at s at
word-at-place s at = word_at_drop s at 0 ∙ rw add-zero

pub word-rest : (s : List ℕ) (at : ℕ) {v : ℕ} {rest : List ℕ} → at ≤ length s → word (drop at s) ≡ got v rest
    → (at + 4 ≤ length s) × (rest ≡ drop (at + 4) s) × (v ≡ word_at s at)
unfolding word
word-rest s at h e =
    let r = value_rest s at 4 h (λ l. word_at l 0) e in
    (r.0, r.1, r.2 ∙ word-at-place s at)

pub word_on : (l : List ℕ) {u : Unit {0}} {rest : List ℕ} → room 4 l ≡ got u rest → word l ≡ got (word_at l 0) rest
unfolding word
word_on l e = then_on (λ u rest. got (word_at l 0) rest) e

pub word-off : (l : List ℕ) {n : ℕ} → room 4 l ≡ stop n → word l ≡ stop n
unfolding word
word-off l e = then_off (λ u rest. got (word_at l 0) rest) e

-- ---- a field whose value is tested

pub within : (low limit w : ℕ) → (leb low w && ltb w limit ≡ true) ↔ ((low ≤ w) × (w < limit))
within low limit w = (
  λ e. let b = both (leb low w) (ltb w limit) e in (leb-true low w b.0, ltb-true w limit b.1),
  λ p. both_of (le-leb low w p.0) (lt-ltb w limit p.1),
)

module _ (low limit n : ℕ) (l : List ℕ) where
  abbrev tested : ℕ → List ℕ → Parsed ℕ
  tested w rest = stop_unless (leb low w && ltb w limit) n (got w rest)

  pub field_off : {m : ℕ} → room 4 l ≡ stop m → field low limit n l ≡ stop m
  unfolding field
  field_off e = then_off tested (word-off l e)

  module _ {u : Unit {0}} {rest : List ℕ} (whole : room 4 l ≡ got u rest) where
    field_on : field low limit n l ≡ tested (word_at l 0) rest
    unfolding field
    field_on = then_on tested (word_on l whole)

    pub field-low : word_at l 0 < low → field low limit n l ≡ stop n
    field-low h = field_on ∙ rw (lt-leb low (word_at l 0) h)

    pub field-high : limit ≤ word_at l 0 → field low limit n l ≡ stop n
    field-high h = field_on ∙ rw (le-ltb (word_at l 0) limit h, and-false)

    pub field_in : low ≤ word_at l 0 → word_at l 0 < limit → field low limit n l ≡ got (word_at l 0) rest
    field_in h k = field_on ∙ rw (le-leb low (word_at l 0) h, lt-ltb (word_at l 0) limit k)

-- a field that was read is a word within its limits
pub field-got : (low limit n : ℕ) (l : List ℕ) {v : ℕ} {rest : List ℕ} → field low limit n l ≡ got v rest → (word l ≡ got v rest) × (low ≤ v) × (v < limit)
unfolding field
field-got low limit n l {v} e =
    let t = through_test (λ w. leb low w && ltb w limit) n (word l) e in
    let b = (within low limit v).0 t.1 in
    (t.0, b.0, b.1)

-- where the place behind it is known
pub record Field (s : List ℕ) (low limit at v k : ℕ) : Type 0 where
  pub whole : at + 4 ≤ length s
  pub end : k ≡ at + 4
  pub value : v ≡ word_at s at
  pub least : low ≤ v
  pub below : v < limit

pub field_at : (s : List ℕ) (low limit n at : ℕ) {v k : ℕ} → at ≤ length s → field low limit n (drop at s) ≡ got v (drop k s) → k ≤ length s → Field s low limit at v k
field_at s low limit n at h e l =
    let f = field-got low limit n (drop at s) e in
    let w = word-rest s at h f.0 in
    record { whole = w.0; end = place_is s w.1 l w.0; value = w.2; least = f.1; below = f.2 }

-- ---- the header

module _ (s opening : List ℕ) where
  pub header-off : starts_with s opening ≡ false → header opening s ≡ stop 1
  unfolding header
  header-off e = rw e

  pub header_on : starts_with s opening ≡ true → header opening s ≡ and_then (field 1 9 3 (drop 4 s)) sizes
  unfolding header
  header_on e = rw e

-- ---- the check word

module _ (s : List ℕ) (at : ℕ) (h : at ≤ length s) where
  pub close-off : {n : ℕ} → room 4 (drop at s) ≡ stop n → close s (drop at s) ≡ stop n
  unfolding close
  close-off e = then_off (ended (take (length s - length (drop at s)) s)) (word-off (drop at s) e)

  -- the bytes before the check word
  before : length s - length (drop at s) ≡ at
  before = rw length-drop (omega arith)

  module _ {k : ℕ} (g : Says s (room 4 (drop at s)) (Ok k)) where
    close_on : close s (drop at s) ≡ ended (take (length s - length (drop at s)) s) (word_at s at) (drop k s)
    unfolding close
    close_on = then_on (ended (take (length s - length (drop at s)) s)) (word_on (drop at s) g.1) ∙ rw (word-at-place s at)

    pub close_follow : k < length s → close s (drop at s) ≡ stop 10
    close_follow l = close_on ∙ rw (ne_eqb (length (drop k s)) 0 (λ e. let f : length s - k ≡ 0 = rw length-drop at e in omega arith))

    none : length s ≤ k → eqb (length (drop k s)) 0 ≡ true
    none l = eq-eqb (length (drop k s)) 0 (rw length-drop (omega arith))

    pub close_right : length s ≤ k → word_at s at ≡ check_of (take at s) → Says s (close s (drop at s)) (Ok k)
    close_right l e = (tt, close_on ∙ rw (none l, before, eq-eqb (word_at s at) (check_of (take at s)) e), g.2)

    pub close_wrong : length s ≤ k → (word_at s at ≡ check_of (take at s) → ⊥) → close s (drop at s) ≡ stop 11
    close_wrong l e = close_on ∙ rw (none l, before, ne_eqb (word_at s at) (check_of (take at s)) e)
