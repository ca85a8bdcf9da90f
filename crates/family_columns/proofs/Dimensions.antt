-- The columns of one dimension after the other.
use mathlib.Core.Path.{◌≡◌, refl, sym, ap, subst, ◌∙◌}
use mathlib.Core.List.{List, [], ◌∷◌, map}
use Prim.Native.Nat.{ℕ, zero, suc, ◌+◌, ◌-◌, ◌*◌, ◌≤◌, ◌<◌}
use native.Mathlib.Numerals.{add-one}
use native.Mathlib.Omega.{arith}
use lib.Dec.{eqb}
use lib.ListN.{length, get_or, take, drop, length-take}
use lib.Seq.{drop-drop}
use borrow.Author.Tests.{eqb-true, eqb-false}
use Rattle.lists.specs.Lists.{◌∈◌}
use Rattle.lists.proofs.Tests.{cases, truth}
use Rattle.lists.proofs.Members.{at_in}
use Rattle.fields_walk.specs.Limits.{Below}
use Rattle.rows_order.specs.Index.{code_at}
use Rattle.rows_columns.specs.Columns.{part}
use Rattle.family_nodes.specs.Families.{Levels, lift}
use Rattle.fields.specs.Words.{word_at}
use Rattle.family_fields.specs.Places.{tower_at, tables, levels_at, Stands, AllStand}
use Rattle.family_slots.specs.Slots.{Small}
use Rattle.family_cells.specs.Levelled.{level_codes, Levelled}
use Rattle.family_columns.specs.Raised.{dimension_codes, Dimension}

-- ---- dimension i of many

module _ (s : List ℕ) where
  -- the places of its levels
  abbrev pub places_of : List ℕ → List ℕ → ℕ → List ℕ
  places_of ns ps i = take (get_or ns i 0 - 1) (drop (tables (take i ns)) ps)

  pub levels-get : (zs ns ps : List ℕ) (i : ℕ) → length ns ≡ length zs → i < length zs → get_or (levels_at s zs ns ps) i [] ≡ tower_at s (get_or zs i 0) (places_of ns ps i)
  levels-get [] ns ps i e h = absurd (omega (arith, h))
  levels-get (z ∷ zs) [] ps i e h = absurd (omega (arith, e))
  levels-get (z ∷ zs) (n ∷ ns) ps zero e h = refl
  levels-get (z ∷ zs) (n ∷ ns) ps (suc i) e h =
      levels-get zs ns (drop (n - 1) ps) i (omega (arith, e)) (omega (arith, h)) ∙ ap (λ (l : List ℕ). tower_at s (get_or zs i 0) (take (get_or ns i 0 - 1) l)) (drop-drop (tables (take i ns)) (n - 1) ps)

  pub stand_get : (zs ns ps : List ℕ) (i : ℕ) → length ns ≡ length zs → i < length zs → AllStand s zs ns ps → Stands s (get_or zs i 0) (places_of ns ps i)
  stand_get [] ns ps i e h k = absurd (omega (arith, h))
  stand_get (z ∷ zs) [] ps i e h k = absurd (omega (arith, e))
  stand_get (z ∷ zs) (n ∷ ns) ps zero e h k = k.0
  stand_get (z ∷ zs) (n ∷ ns) ps (suc i) e h k =
      subst (λ (l : List ℕ). Stands s (get_or zs i 0) (take (get_or ns i 0 - 1) l)) (drop-drop (tables (take i ns)) (n - 1) ps) (stand_get zs ns (drop (n - 1) ps) i (omega (arith, e)) (omega (arith, h)) k.1)

  pub levels-length : (zs ns ps : List ℕ) → length ns ≡ length zs → length (levels_at s zs ns ps) ≡ length zs
  levels-length [] ns ps e = refl
  levels-length (z ∷ zs) [] ps e = absurd (omega (arith, e))
  levels-length (z ∷ zs) (n ∷ ns) ps e = ap suc (levels-length zs ns (drop (n - 1) ps) (omega (arith, e)))

  pub tower_length : (z : ℕ) (ps : List ℕ) → length (tower_at s z ps) ≡ length ps
  tower_length z [] = refl
  tower_length z (p ∷ ps) = ap suc (tower_length (word_at s p) ps)

pub tables-next : (ns : List ℕ) (i : ℕ) → i < length ns → tables (take (i + 1) ns) ≡ tables (take i ns) + (get_or ns i 0 - 1)
tables-next ns i h = ap (λ (j : ℕ). tables (take j ns)) (add-one i) ∙ go ns i h
  where
    go : (ns : List ℕ) (i : ℕ) → i < length ns → tables (take (suc i) ns) ≡ tables (take i ns) + (get_or ns i 0 - 1)
    go [] i h = absurd (omega (arith, h))
    go (n ∷ ns) zero h = omega arith
    go (n ∷ ns) (suc i) h = omega (arith, go ns i (omega (arith, h)))

pub tables-part : (ns : List ℕ) (i : ℕ) → tables (take i ns) ≤ tables ns
tables-part ns zero = omega arith
tables-part [] (suc i) = omega arith
tables-part (n ∷ ns) (suc i) = omega (arith, tables-part ns i)

pub below_at : (zs x : List ℕ) (i : ℕ) → Below zs x → i < length zs → code_at i x < get_or zs i 0
below_at [] x i b h = absurd (omega (arith, h))
below_at (z ∷ zs) [] i b h = absurd b
below_at (z ∷ zs) (a ∷ x) zero b h = b.0
below_at (z ∷ zs) (a ∷ x) (suc i) b h = below_at zs x i b.1 (omega (arith, h))

-- ---- one dimension after the other

pub record Columning (s zs ns ps : List ℕ) (xs : List (List ℕ)) (columns₀ columns : List ℕ) (len d : ℕ) : Type 0 where
  pub upto : d ≤ length zs
  pub count : len ≡ tables (take d ns)
  pub size : length columns ≡ length columns₀
  pub small : Small columns
  pub column : (i l : ℕ) → i < d → l ≤ length (places_of s ns ps i) → part (i * 4 + l) (length xs) columns ≡ dimension_codes s (get_or zs i 0) (places_of s ns ps i) i l xs

pub columning_start : (s zs ns ps : List ℕ) (xs : List (List ℕ)) (columns : List ℕ) → Small columns → Columning s zs ns ps xs columns columns 0 0
columning_start s zs ns ps xs columns f = record { upto = omega arith; count = refl; size = refl; small = f; column = λ i l h. absurd (omega (arith, h)) }

module _ {s zs ns ps : List ℕ} {xs : List (List ℕ)} {columns₀ columns : List ℕ} {len d : ℕ} (even : length ns ≡ length zs) (few : (m : ℕ) → m ∈ ns → (1 ≤ m) × (m ≤ 4)) (w : Columning s zs ns ps xs columns₀ columns len d) where
  pub columning-more : {columns₂ : List ℕ} {to : ℕ} → d < length zs → to ≡ len + (get_or ns d 0 - 1) → Dimension s (get_or zs d 0) (places_of s ns ps d) d xs columns columns₂ (length (places_of s ns ps d))
      → ((i : ℕ) → i < d → length (places_of s ns ps i) ≤ 3) → Columning s zs ns ps xs columns₀ columns₂ to (d + 1)
  columning-more {columns₂} {to} h e p three = record {
    upto = omega (arith, h);
    count = omega (arith, e, w.count, tables-next ns d (omega (arith, h, even)));
    size = p.size ∙ w.size;
    small = p.small;
    column = λ i l g k. cases (truth (eqb i d))
        (λ u. let q = eqb-true i d u in subst (λ (j : ℕ). part (j * 4 + l) (length xs) columns₂ ≡ dimension_codes s (get_or zs j 0) (places_of s ns ps j) j l xs) (sym q) (p.column l (subst (λ (j : ℕ). l ≤ length (places_of s ns ps j)) q k)))
        (λ u. let n = eqb-false i d u in let f : i < d = omega (arith, g, n) in p.others (i * 4 + l) (λ v. n (omega (arith, v, k, three i f))) ∙ w.column i l f k);
  }

  pub columning-done : length zs ≤ d → Levelled (levels_at s zs ns ps) xs columns
  unfolding dimension_codes level_codes
  columning-done h = record {
    column = λ i l g k.
        let f : i < length zs = omega (arith, g, levels-length s zs ns ps even) in
        let t = levels-get s zs ns ps i even f in
        w.column i l (omega (arith, f, h)) (omega (arith, k, ap length t, tower_length s (get_or zs i 0) (places_of s ns ps i)))
        ∙ ap (λ (u : Levels). map (λ x. lift u l (code_at i x)) xs) (sym t);
  }

-- ---- the places of a dimension

module _ (s ns ps : List ℕ) (few : (m : ℕ) → m ∈ ns → (1 ≤ m) × (m ≤ 4)) (i : ℕ) (h : i < length ns) where
  pub count_at : (1 ≤ get_or ns i 0) × (get_or ns i 0 ≤ 4)
  count_at = few (get_or ns i 0) (at_in 0 ns i h)

  pub places-three : length (places_of s ns ps i) ≤ 3
  places-three = omega (arith, length-take (get_or ns i 0 - 1) (drop (tables (take i ns)) ps), count_at.1)

  pub places-end : {len : ℕ} → len ≡ tables (take i ns) → tables ns ≡ length ps → len + (get_or ns i 0 - 1) ≤ length ps
  places-end e f = omega (arith, e, f, tables-next ns i h, tables-part ns (i + 1))

  pub places-are : {len : ℕ} → len ≡ tables (take i ns) → take (len + (get_or ns i 0 - 1) - len) (drop len ps) ≡ places_of s ns ps i
  places-are {len} e = let w : len + (get_or ns i 0 - 1) - len ≡ get_or ns i 0 - 1 = omega arith in ap (λ (k : ℕ). take k (drop len ps)) w ∙ ap (λ (k : ℕ). take (get_or ns i 0 - 1) (drop k ps)) e
