-- The walk over the dimensions: the levels of those before stand in front of what is read from the present place on.
use mathlib.Core.Path.{◌≡◌, refl, sym, ap, ap₂, subst, ◌∙◌}
use mathlib.Core.List.Memᴰ
use mathlib.Core.List.{List, [], ◌∷◌, ◌++◌, append-nil}
use Prim.Native.Nat.{ℕ, zero, suc, ◌+◌, ◌-◌, ◌*◌, ◌≤◌, ◌<◌}
use native.Mathlib.Numerals.{add-one}
use native.Mathlib.Omega.{arith}
use lib.ListN.{length, get_or, take, drop, length-drop, drop_of_length-le}
use lib.Seq.{length-take-le, take-suc, drop-cons, take_all, take-append-le, drop-append-le}
use Rattle.lists.specs.Lists.{◌∈◌}
use Rattle.lists.proofs.Members.{at_in}
use Rattle.fields_walk.specs.Parsed.{Parsed, stop, got, consed}
use Rattle.std.specs.Prelude.{Result, Ok}
use Rattle.stops.specs.declared.Stop.{Stop}
use Rattle.family_nodes.specs.Families.{Levels}
use Rattle.family_fields.specs.Shape.{levels, towers}
use Rattle.family_fields.specs.Places.{tower_at, tables, levels_at, Stands, AllStand, Stacks, Stacked}
use Rattle.family_fields.proofs.Levels.{after, after_none, after-cons}

-- ---- how many tables

tables_more : (ns : List ℕ) (n : ℕ) → tables (ns ++ n ∷ []) ≡ tables ns + (n - 1)
tables_more [] n = omega arith
tables_more (m ∷ ns) n = omega (arith, tables_more ns n)

pub tables-few : (ns : List ℕ) → ((n : ℕ) → n ∈ ns → n ≤ 4) → tables ns ≤ 3 * length ns
tables-few [] h = omega arith
tables-few (n ∷ ns) h = omega (arith, h n (Memᴰ.head refl), tables-few ns (λ m i. h m (Memᴰ.tail i)))

tables-take : (ns : List ℕ) (i : ℕ) → tables (take i ns) ≤ tables ns
tables-take ns zero = omega arith
tables-take [] (suc i) = omega arith
tables-take (n ∷ ns) (suc i) = omega (arith, tables-take ns i)

-- ---- one dimension more

levels-more : (s zs ns ps : List ℕ) (z n : ℕ) (qs : List ℕ) → length zs ≡ length ns → length ps ≡ tables ns → length qs ≡ n - 1
    → levels_at s (zs ++ z ∷ []) (ns ++ n ∷ []) (ps ++ qs) ≡ levels_at s zs ns ps ++ tower_at s z qs ∷ []
levels-more s [] [] [] z n qs e f g = ap (λ (l : List ℕ). tower_at s z l ∷ []) (take_all (n - 1) qs (omega (arith, g)))
levels-more s [] [] (p ∷ ps) z n qs e f g = absurd (omega (arith, f))
levels-more s [] (m ∷ ns) ps z n qs e f g = absurd (omega (arith, e))
levels-more s (y ∷ zs) [] ps z n qs e f g = absurd (omega (arith, e))
levels-more s (y ∷ zs) (m ∷ ns) ps z n qs e f g =
    ap₂ (λ (a b : List ℕ). tower_at s y a ∷ levels_at s (zs ++ z ∷ []) (ns ++ n ∷ []) b) (take-append-le (m - 1) ps qs (omega (arith, f))) (drop-append-le (m - 1) ps qs (omega (arith, f)))
    ∙ ap (λ (t : List Levels). tower_at s y (take (m - 1) ps) ∷ t) (levels-more s zs ns (drop (m - 1) ps) z n qs (omega (arith, e)) (omega (arith, f, length-drop (m - 1) ps)) g)

all-stand-more : (s zs ns ps : List ℕ) (z n : ℕ) (qs : List ℕ) → length zs ≡ length ns → length ps ≡ tables ns → length qs ≡ n - 1 → AllStand s zs ns ps → Stands s z qs → AllStand s (zs ++ z ∷ []) (ns ++ n ∷ []) (ps ++ qs)
all-stand-more s [] [] [] z n qs e f g h k = (subst (Stands s z) (sym (take_all (n - 1) qs (omega (arith, g)))) k, tt)
all-stand-more s [] [] (p ∷ ps) z n qs e f g h k = absurd (omega (arith, f))
all-stand-more s [] (m ∷ ns) ps z n qs e f g h k = absurd (omega (arith, e))
all-stand-more s (y ∷ zs) [] ps z n qs e f g h k = absurd (omega (arith, e))
all-stand-more s (y ∷ zs) (m ∷ ns) ps z n qs e f g h k = (
  subst (Stands s y) (sym (take-append-le (m - 1) ps qs (omega (arith, f)))) h.0,
  subst (AllStand s (zs ++ z ∷ []) (ns ++ n ∷ [])) (sym (drop-append-le (m - 1) ps qs (omega (arith, f))))
      (all-stand-more s zs ns (drop (m - 1) ps) z n qs (omega (arith, e)) (omega (arith, f, length-drop (m - 1) ps)) g h.1 k),
)

-- ---- the loop

pub record Towering (s zs ns : List ℕ) (start : ℕ) (places₀ places : List ℕ) (at len i : ℕ) : Type 0 where
  pub upto : i ≤ length zs
  pub inside : at ≤ length s
  pub size : length places ≡ length places₀
  pub count : len ≡ tables (take i ns)
  pub stands : AllStand s (take i zs) (take i ns) (take len places)
  pub whole : towers zs ns (drop start s) ≡ after (levels_at s (take i zs) (take i ns) (take len places)) (towers (drop i zs) (drop i ns) (drop at s))

pub towering_start : (s zs ns : List ℕ) (start : ℕ) (places : List ℕ) → start ≤ length s → Towering s zs ns start places places start 0 0
towering_start s zs ns start places h = record { upto = omega arith; inside = h; size = refl; count = refl; stands = tt; whole = after_none (towers zs ns (drop start s)) }

module _ {s zs ns : List ℕ} {start : ℕ} {places₀ places : List ℕ} {at len i : ℕ} (even : length ns ≡ length zs) (few : (n : ℕ) → n ∈ ns → (1 ≤ n) × (n ≤ 4)) (dims : length zs ≤ 8) (room : 24 ≤ length places₀)
    (w : Towering s zs ns start places₀ places at len i) where
  most : tables ns ≤ 24
  most = omega (arith, tables-few ns (λ n m. (few n m).1), even, dims)

  len-most : len ≤ 24
  len-most = omega (arith, w.count, tables-take ns i, most)

  module _ (h : i < length zs) where
    abbrev n : ℕ
    n = get_or ns i 0

    abbrev z : ℕ
    z = get_or zs i 0

    pub towering-count : (1 ≤ n) × (n ≤ 4)
    towering-count = few n (at_in 0 ns i (omega (arith, h, even)))

    next-tables : tables (take (i + 1) ns) ≡ tables (take i ns) + (n - 1)
    next-tables = ap tables (ap (λ (j : ℕ). take j ns) (add-one i) ∙ take-suc ns i 0 (omega (arith, h, even))) ∙ tables_more (take i ns) n

    pub towering-room : len + (n - 1) ≤ length places
    towering-room = omega (arith, w.count, next-tables, tables-take ns (i + 1), most, room, w.size)

    next-tower : towers (drop i zs) (drop i ns) (drop at s) ≡ consed (levels (n - 1) z (drop at s)) (λ t. towers (drop (i + 1) zs) (drop (i + 1) ns))
    unfolding towers
    next-tower = rw (add-one, drop-cons zs i 0 h, drop-cons ns i 0 (omega (arith, h, even)))

    pub towering-off : {m : ℕ} → levels (n - 1) z (drop at s) ≡ stop m → towers zs ns (drop start s) ≡ stop m
    towering-off e = w.whole ∙ ap (after (levels_at s (take i zs) (take i ns) (take len places))) (next-tower ∙ ap (λ (p : Parsed Levels). consed p (λ t. towers (drop (i + 1) zs) (drop (i + 1) ns))) e)

    pub towering_on : {places₂ : List ℕ} {next : ℕ} → length places₂ ≡ length places → Stacks s (levels (n - 1) z (drop at s)) z (n - 1) len places places₂ (Ok next) → Towering s zs ns start places₀ places₂ next (len + (n - 1)) (i + 1)
    towering_on {places₂} {next} kept g =
        let new = g.0 in
        let t = tower_at s z new in
        let one-zs : take (i + 1) zs ≡ take i zs ++ z ∷ [] = ap (λ (j : ℕ). take j zs) (add-one i) ∙ take-suc zs i 0 h in
        let one-ns : take (i + 1) ns ≡ take i ns ++ n ∷ [] = ap (λ (j : ℕ). take j ns) (add-one i) ∙ take-suc ns i 0 (omega (arith, h, even)) in
        let same : length (take i zs) ≡ length (take i ns) = length-take-le i zs (omega (arith, h)) ∙ sym (length-take-le i ns (omega (arith, h, even))) in
        let long : length (take len places) ≡ tables (take i ns) = length-take-le len places (omega (arith, len-most, room, w.size)) ∙ w.count in
        let fore : levels_at s (take (i + 1) zs) (take (i + 1) ns) (take (len + (n - 1)) places₂) ≡ levels_at s (take i zs) (take i ns) (take len places) ++ t ∷ [] =
        ap₂ (λ (a b : List ℕ). levels_at s a b (take (len + (n - 1)) places₂)) one-zs one-ns
        ∙ ap (levels_at s (take i zs ++ z ∷ []) (take i ns ++ n ∷ [])) g.4
        ∙ levels-more s (take i zs) (take i ns) (take len places) z n new same long g.3 in
        record {
          upto = omega (arith, h);
          inside = g.2;
          size = kept ∙ w.size;
          count = omega (arith, w.count, next-tables);
          stands = subst (λ (l : List ℕ). AllStand s l (take (i + 1) ns) (take (len + (n - 1)) places₂)) (sym one-zs)
              (subst (λ (l : List ℕ). AllStand s (take i zs ++ z ∷ []) l (take (len + (n - 1)) places₂)) (sym one-ns)
              (subst (AllStand s (take i zs ++ z ∷ []) (take i ns ++ n ∷ [])) (sym g.4) (all-stand-more s (take i zs) (take i ns) (take len places) z n new same long g.3 w.stands g.5)));
          whole = w.whole ∙ ap (after (levels_at s (take i zs) (take i ns) (take len places))) (next-tower ∙ ap (λ (p : Parsed Levels). consed p (λ u. towers (drop (i + 1) zs) (drop (i + 1) ns))) g.1)
              ∙ after-cons (levels_at s (take i zs) (take i ns) (take len places)) t (towers (drop (i + 1) zs) (drop (i + 1) ns) (drop next s))
              ∙ ap (λ (l : List Levels). after l (towers (drop (i + 1) zs) (drop (i + 1) ns) (drop next s))) (sym fore);
        }

  module _ (h : length zs ≤ i) where
    all-zs : take i zs ≡ zs
    all-zs = take_all i zs h

    all-ns : take i ns ≡ ns
    all-ns = take_all i ns (omega (arith, h, even))

    all-len : len ≡ tables ns
    all-len = w.count ∙ ap tables all-ns

    pub towering-done : towers zs ns (drop start s) ≡ got (levels_at s zs ns (take (tables ns) places)) (drop at s)
    unfolding towers
    towering-done =
        w.whole ∙ ap (λ (l : List ℕ). after (levels_at s (take i zs) (take i ns) (take len places)) (towers l (drop i ns) (drop at s))) (drop_of_length-le zs h)
        ∙ ap (λ (l : List Levels). got l (drop at s)) (append-nil (levels_at s (take i zs) (take i ns) (take len places))
        ∙ ap₂ (λ (a b : List ℕ). levels_at s a b (take len places)) all-zs all-ns ∙ ap (λ (j : ℕ). levels_at s zs ns (take j places)) all-len)

    pub towering-stands : AllStand s zs ns (take (tables ns) places)
    towering-stands = subst (λ (j : ℕ). AllStand s zs ns (take j places)) all-len
        (subst (λ (l : List ℕ). AllStand s zs l (take len places)) all-ns (subst (λ (l : List ℕ). AllStand s l (take i ns) (take len places)) all-zs w.stands))

-- what the code saw its answer to be
pub seen-stacked : {s : List ℕ} {p : Parsed Levels} {z n len : ℕ} {places places₂ : List ℕ} {w v : Result ℕ Stop} → w ≡ v → Stacked s p z n len places places₂ w → Stacks s p z n len places places₂ v
seen-stacked {s} {p} {z} {n} {len} {places} {places₂} e h = subst (Stacks s p z n len places places₂) e h.says
