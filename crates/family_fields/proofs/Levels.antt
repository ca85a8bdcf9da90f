-- The walk over next levels, one after the other: what was read stands in front of what is read from the present place on.
use mathlib.Core.Path.{◌≡◌, refl, sym, ap, ap₂, subst, ◌∙◌}
use mathlib.Core.List.Memᴰ
use mathlib.Core.List.{List, [], ◌∷◌, ◌++◌, append_assoc, append-nil}
use Prim.Native.Nat.{ℕ, zero, suc, ◌+◌, ◌-◌, ◌*◌, ◌≤◌, ◌<◌}
use native.Mathlib.Omega.{arith}
use lib.ListN.{length, take, drop, set, length-set, length-append}
use lib.Seq.{take-suc-set}
use Rattle.lists.specs.Lists.{◌∈◌}
use Rattle.lists.proofs.Tests.{cases}
use Rattle.fields.specs.Words.{word_at}
use Rattle.fields.specs.WordsLaws.{length_words_at}
use Rattle.fields_walk.specs.Parsed.{Parsed, stop, got, and_then, consed, many}
use Rattle.fields_walk.specs.Fields.{field}
use Rattle.std.specs.Prelude.{Result}
use Rattle.stops.specs.declared.Stop.{Stop}
use Rattle.fields_walk.specs.Walked.{Walked}
use Rattle.fields_walk.proofs.Steps.{through_pair, cons_forth, then_on, then_off, walked_as, walked-map}
use Rattle.fields_walk.proofs.Fields.{field-got, word-rest}
use Rattle.fields_walk.proofs.Found.{finds_field, finds_all}
use Rattle.family_nodes.specs.Families.{Level, Levels}
use Rattle.family_fields.specs.Shape.{level, levels, Leveled}
use Rattle.family_fields.specs.Places.{level_at, size_at, tower_at, Stands}

-- ---- things read behind others

abbrev pub after : {A : Type 0} → List A → Parsed (List A) → Parsed (List A)
after pre p = and_then p (λ us rest. got (pre ++ us) rest)

pub after_none : {A : Type 0} (p : Parsed (List A)) → p ≡ after [] p
after_none (stop n) = refl
after_none (got us rest) = refl

pub after-cons : {A : Type 0} (pre : List A) (v : A) (p : Parsed (List A)) → after pre (and_then p (λ us rest. got (v ∷ us) rest)) ≡ after (pre ++ v ∷ []) p
after-cons pre v (stop n) = refl
after-cons pre v (got us rest) = ap (λ l. got l rest) (sym (append_assoc pre (v ∷ []) us))

-- ---- fields that were read are within their limits

got-nil : {ws l rest : List ℕ} → got [] l ≡ got ws rest → ws ≡ []
got-nil e = cc

pub many-within : (low limit n k : ℕ) (l : List ℕ) {ws rest : List ℕ} → many k (field low limit n) l ≡ got ws rest → (w : ℕ) → w ∈ ws → (low ≤ w) × (w < limit)
unfolding many
many-within low limit n zero l {ws} e w m = absurd (Memᴰ.not-nil (subst (λ (z : List ℕ). w ∈ z) (got-nil e) m))
many-within low limit n (suc k) l e w m =
    let t = cons_forth (λ x. many k (field low limit n)) (field low limit n l) e in
    let f = field-got low limit n l t.3 in
    cases (Memᴰ.cases_cons (subst (λ (z : List ℕ). w ∈ z) t.5 m))
    (λ q. subst (λ (z : ℕ). (low ≤ z) × (z < limit)) (sym q) (f.1, f.2))
    (many-within low limit n k t.2 t.4 w)

-- ---- a level

abbrev made : ℕ → List ℕ → Level
made n t = record { size = n; table = t }

module _ (z : ℕ) (l : List ℕ) where
  abbrev entries : ℕ → List ℕ → Parsed Level
  entries n rest = and_then (many z (field 0 n 21) rest) (λ t rest'. got (made n t) rest')

  pub level-off : {n : ℕ} → field 1 65536 21 l ≡ stop n → level z l ≡ stop n
  unfolding level
  level-off e = then_off entries e

  pub level-on : {s : List ℕ} {v : ℕ} {rest : List ℕ} {w : Result ℕ Stop} → field 1 65536 21 l ≡ got v rest → Walked s (many z (field 0 v 21) rest) w → Walked s (level z l) w
  unfolding level
  level-on {v = v} e h = walked_as (then_on entries e) (walked-map (made v) h)

-- ---- a level at its place

-- what was read there
record Level-at (s : List ℕ) (z at : ℕ) (v : Level) : Type 0 where
  pub is : v ≡ level_at s z at
  pub word : at + 4 ≤ length s
  pub whole : at + (4 + 4 * z) ≤ length s
  pub limits : Leveled z (level_at s z at)

level-found : (s : List ℕ) (z at : ℕ) {v : Level} {rest : List ℕ} → at ≤ length s → level z (drop at s) ≡ got v rest → Level-at s z at v
unfolding level
level-found s z at {v} {rest} h e =
    let t = through_pair made (field 1 65536 21 (drop at s)) (λ n. many z (field 0 n 21)) e in
    let g = field-got 1 65536 21 (drop at s) t.3 in
    let f = word-rest s at h g.0 in
    let w = (finds_all s (finds_field s 0 t.0 21) z (at + 4)).found t.1 rest f.0 (ap (many z (field 0 t.0 21)) (sym f.1) ∙ t.4) in
    record {
      is = sym t.5 ∙ ap₂ made f.2 w.2;
      word = f.0;
      whole = omega (arith, w.0);
      limits = record {
        some = omega (arith, g.1, f.2);
        most = omega (arith, g.2, f.2);
        long = length_words_at s z (at + 4);
        each = λ a m. omega (arith, (many-within 0 t.0 21 z t.2 t.4 a (subst (λ (l : List ℕ). a ∈ l) (sym w.2) m)).1, f.2);
      };
    }

-- ---- one level more

tower-more : (s : List ℕ) (z : ℕ) (ps : List ℕ) (p : ℕ) → tower_at s z (ps ++ p ∷ []) ≡ tower_at s z ps ++ level_at s (size_at s z ps) p ∷ []
tower-more s z [] p = refl
tower-more s z (q ∷ ps) p = ap (λ t. level_at s z q ∷ t) (tower-more s (word_at s q) ps p)

size-more : (s : List ℕ) (z : ℕ) (ps : List ℕ) (p : ℕ) → size_at s z (ps ++ p ∷ []) ≡ word_at s p
size-more s z [] p = refl
size-more s z (q ∷ ps) p = size-more s (word_at s q) ps p

stands-more : (s : List ℕ) (z : ℕ) (ps : List ℕ) (p : ℕ) → Stands s z ps → p + (4 + 4 * size_at s z ps) ≤ length s → Leveled (size_at s z ps) (level_at s (size_at s z ps) p) → Stands s z (ps ++ p ∷ [])
stands-more s z [] p h k l = (k, l, tt)
stands-more s z (q ∷ ps) p h k l = (h.0, h.1, stands-more s (word_at s q) ps p h.2 k l)

pub record Levelling (s : List ℕ) (z n start len : ℕ) (places₀ places : List ℕ) (at below k : ℕ) : Type 0 where
  pub upto : k ≤ n
  pub inside : at ≤ length s
  pub size : length places ≡ length places₀
  pub new : List ℕ
  pub count : length new ≡ k
  pub stored : take (len + k) places ≡ take len places₀ ++ new
  pub top : below ≡ size_at s z new
  pub stands : Stands s z new
  pub whole : levels n z (drop start s) ≡ after (tower_at s z new) (levels (n - k) below (drop at s))

pub levelling_start : (s : List ℕ) (z n start len : ℕ) (places : List ℕ) → start ≤ length s → Levelling s z n start len places places start z 0
levelling_start s z n start len places h = record {
  upto = omega arith;
  inside = h;
  size = refl;
  new = [];
  count = refl;
  stored = let e : len + 0 ≡ len = omega arith in ap (λ (j : ℕ). take j places) e ∙ sym (append-nil (take len places));
  top = refl;
  stands = tt;
  whole = let e : n ≡ n - 0 = omega arith in ap (λ (j : ℕ). levels j z (drop start s)) e ∙ after_none (levels (n - 0) z (drop start s));
}

module _ {s : List ℕ} {z n start len : ℕ} {places₀ places : List ℕ} {at below k : ℕ} (w : Levelling s z n start len places₀ places at below k) where
  module _ (h : k < n) where
    next_level : levels (n - k) below (drop at s) ≡ consed (level below (drop at s)) (λ v. levels (n - (k + 1)) v.size)
    unfolding levels
    next_level = let e : n - k ≡ suc (n - (k + 1)) = omega (arith, h) in ap (λ (j : ℕ). levels j below (drop at s)) e

    pub levelling-off : {m : ℕ} → level below (drop at s) ≡ stop m → levels n z (drop start s) ≡ stop m
    levelling-off e = w.whole ∙ ap (after (tower_at s z w.new)) (next_level ∙ ap (λ (p : Parsed Level). consed p (λ v. levels (n - (k + 1)) v.size)) e)

    pub levelling-word : {v : Level} {rest : List ℕ} → level below (drop at s) ≡ got v rest → at + 4 ≤ length s
    levelling-word e = (level-found s below at w.inside e).word

    pub levelling_on : {v : Level} {next : ℕ} → len + k < length places → level below (drop at s) ≡ got v (drop next s) → next ≤ length s → Levelling s z n start len places₀ (set places (len + k) at) next (word_at s at) (k + 1)
    levelling_on {v} {next} room e l =
        let found = level-found s below at w.inside e in
        let f = found.is in
        let one : len + (k + 1) ≡ suc (len + k) = omega arith in
        record {
          upto = omega (arith, h);
          inside = l;
          size = length-set places (len + k) at ∙ w.size;
          new = w.new ++ at ∷ [];
          count = omega (arith, length-append w.new (at ∷ []), w.count);
          stored = ap (λ (j : ℕ). take j (set places (len + k) at)) one ∙ take-suc-set places (len + k) at room ∙ ap (λ (t : List ℕ). t ++ at ∷ []) w.stored ∙ append_assoc (take len places₀) w.new (at ∷ []);
          top = sym (size-more s z w.new at);
          stands = stands-more s z w.new at w.stands (subst (λ (y : ℕ). at + (4 + 4 * y) ≤ length s) w.top found.whole) (subst (λ (y : ℕ). Leveled y (level_at s y at)) w.top found.limits);
          whole = w.whole ∙ ap (after (tower_at s z w.new)) (next_level ∙ ap (λ (p : Parsed Level). consed p (λ u. levels (n - (k + 1)) u.size)) e)
              ∙ after-cons (tower_at s z w.new) v (levels (n - (k + 1)) v.size (drop next s))
              ∙ ap₂ (λ (u : Level) (t : Levels). after t (levels (n - (k + 1)) u.size (drop next s))) f
              (ap (λ (u : Level). tower_at s z w.new ++ u ∷ []) (f ∙ ap (λ (y : ℕ). level_at s y at) w.top) ∙ sym (tower-more s z w.new at));
        }

  pub levelling-done : n ≤ k → (levels n z (drop start s) ≡ got (tower_at s z w.new) (drop at s)) × (length w.new ≡ n) × (take (len + n) places ≡ take len places₀ ++ w.new)
  unfolding levels
  levelling-done h =
      let e : n - k ≡ 0 = omega (arith, h) in
      let q : k ≡ n = omega (arith, h, w.upto) in
      (w.whole ∙ ap (λ (j : ℕ). after (tower_at s z w.new) (levels j below (drop at s))) e ∙ ap (λ (t : Levels). got t (drop at s)) (append-nil (tower_at s z w.new)), w.count ∙ q, ap (λ (j : ℕ). take (len + j) places) (sym q) ∙ w.stored)
