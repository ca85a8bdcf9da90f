-- The fields of levels as bytes: what is written is read back, and what was read stands there.
use mathlib.Core.Path.{◌≡◌, refl, ap, ap₂}
use mathlib.Core.Logic.{◌↔◌}
use mathlib.Core.List.Memᴰ
use mathlib.Core.List.{List, [], ◌∷◌, ◌++◌, map, flat_map}
use Prim.Native.Nat.{ℕ, zero, suc, ◌-◌, ◌≤◌, ◌<◌}
use native.Mathlib.Omega.{arith}
use lib.Dec.{leb}
use lib.ListN.{length}
use borrow.Author.Tests.{leb-true, le-leb}
use Rattle.lists.specs.Lists.{◌∈◌}
use Rattle.lists.proofs.Tests.{cases}
use Rattle.lists.proofs.Pigeonhole.{no_more}
use Rattle.fields.specs.Words.{words_bytes}
use Rattle.fields_walk.proofs.Codec.{Codec, codec_as, codec_test, codec_then, codec_pair}
use Rattle.fields_walk.proofs.Many.{flat-each, Cons, codec_nil, codec_cons, words_codec}
use Rattle.fields_walk.proofs.Codecs.{field_codec}
use Rattle.fields_walk.proofs.Ends.{header_codec}
use Rattle.family_nodes.specs.Nodes.{node_count}
use Rattle.family_nodes.specs.Families.{Levels, heights}
use Rattle.family_fields.specs.Shape.{level_count, level_bytes, levels_bytes, family_bytes, level, levels, towers, levelled, family, Leveled, Tower, Towers, Shaped}

level-codec : (z : ℕ) → Codec (level z) level_bytes (Leveled z)
unfolding level level_bytes
level-codec z =
    codec_as (λ v. (
      λ p. record { some = p.0.0; most = omega (arith, p.0.1); long = p.1.0; each = λ a m. (p.1.1 a m).1 },
      λ v. ((v.some, omega (arith, v.most)), (v.long, λ a m. (omega arith, v.each a m))),
    ))
    (codec_pair (λ n t. record { size = n; table = t }) (λ v. v.size) (λ v. v.table) (λ v. refl) (λ n t. refl) (λ n t. refl)
    (field_codec 1 65536 21 (omega arith)) (λ n p. words_codec (field_codec 0 n 21 (omega (arith, p.1))) z))

levels-codec : (n z : ℕ) → Codec (levels n z) levels_bytes (λ t. (length t ≡ n) × Tower z t)
unfolding levels levels_bytes
levels-codec zero z = codec_as (λ t. (λ e. rw e (refl, tt), λ p. no_more t p.0)) (codec_nil (flat-each level_bytes))
levels-codec (suc n) z = codec_as each (codec_cons (flat-each level_bytes) (level-codec z) (λ v p. levels-codec n v.size))
  where
    each : (t : Levels) → Cons (Leveled z) (λ v t. (length t ≡ n) × Tower v.size t) t ↔ ((length t ≡ suc n) × Tower z t)
    each [] = (λ p. absurd p, λ p. absurd (omega (arith, p.0)))
    each (v ∷ t) = (λ p. (ap suc p.1.0, (p.0, p.1.1)), λ p. (p.1.0, (omega (arith, p.0), p.1.1)))

-- next levels of every dimension, as many as the counts say
abbrev Counted : List ℕ → List ℕ → List Levels → Type 0
Counted [] ns [] = Unit {0}
Counted [] ns (t ∷ ts) = ⊥
Counted (z ∷ zs) [] [] = Unit {0}
Counted (z ∷ zs) [] (t ∷ ts) = ⊥
Counted (z ∷ zs) (n ∷ ns) [] = ⊥
Counted (z ∷ zs) (n ∷ ns) (t ∷ ts) = ((length t ≡ n - 1) × Tower z t) × Counted zs ns ts

towers-codec : (zs ns : List ℕ) → Codec (towers zs ns) (flat_map levels_bytes) (Counted zs ns)
unfolding towers
towers-codec [] ns = codec_as none (codec_nil (flat-each levels_bytes))
  where
    none : (ts : List Levels) → (ts ≡ []) ↔ Counted [] ns ts
    none [] = (λ e. tt, λ p. refl)
    none (t ∷ ts) = (λ e. absurd (omega (arith, ap length e)), λ p. absurd p)
towers-codec (z ∷ zs) [] = codec_as none (codec_nil (flat-each levels_bytes))
  where
    none : (ts : List Levels) → (ts ≡ []) ↔ Counted (z ∷ zs) [] ts
    none [] = (λ e. tt, λ p. refl)
    none (t ∷ ts) = (λ e. absurd (omega (arith, ap length e)), λ p. absurd p)
towers-codec (z ∷ zs) (n ∷ ns) = codec_as each (codec_cons (flat-each levels_bytes) (levels-codec (n - 1) z) (λ t p. towers-codec zs ns))
  where
    each : (ts : List Levels) → Cons (λ t. (length t ≡ n - 1) × Tower z t) (λ t. Counted zs ns) ts ↔ Counted (z ∷ zs) (n ∷ ns) ts
    each [] = (λ p. p, λ p. p)
    each (t ∷ ts) = (λ p. p, λ p. p)

-- level counts that were read, one for each dimension
abbrev Counts : List ℕ → List ℕ → Type 0
Counts zs ns = (length ns ≡ length zs) × ((n : ℕ) → n ∈ ns → (1 ≤ n) × (n < 5))

counted-counts : (zs ns : List ℕ) (ts : List Levels) → Counts zs ns → Counted zs ns ts → map level_count ts ≡ ns
counted-counts [] [] [] c p = refl
counted-counts [] (n ∷ ns) ts c p = absurd (omega (arith, c.0))
counted-counts [] [] (t ∷ ts) c p = absurd p
counted-counts (z ∷ zs) [] ts c p = absurd (omega (arith, c.0))
counted-counts (z ∷ zs) (n ∷ ns) [] c p = absurd p
counted-counts (z ∷ zs) (n ∷ ns) (t ∷ ts) c p = ap₂ ◌∷◌
    (omega (arith, p.0.0, (c.1 n (Memᴰ.head refl)).0))
    (counted-counts zs ns ts (omega (arith, c.0), λ m i. c.1 m (Memᴰ.tail i)) p.1)

counts-towers : (zs : List ℕ) (ts : List Levels) → (Counts zs (map level_count ts) × Counted zs (map level_count ts) ts) ↔ Towers zs ts
counts-towers zs ts = (λ p. forth zs ts p.0 p.1, back zs ts)
  where
    forth : (zs : List ℕ) (ts : List Levels) → Counts zs (map level_count ts) → Counted zs (map level_count ts) ts → Towers zs ts
    forth [] [] c p = tt
    forth [] (t ∷ ts) c p = absurd p
    forth (z ∷ zs) [] c p = absurd (omega (arith, c.0))
    forth (z ∷ zs) (t ∷ ts) c p = (
      (omega (arith, (c.1 (level_count t) (Memᴰ.head refl)).1), p.0.1),
      forth zs ts (omega (arith, c.0), λ m i. c.1 m (Memᴰ.tail i)) p.1,
    )

    back : (zs : List ℕ) (ts : List Levels) → Towers zs ts → Counts zs (map level_count ts) × Counted zs (map level_count ts) ts
    back [] [] p = ((refl, λ n m. absurd (Memᴰ.not-nil m)), tt)
    back [] (t ∷ ts) p = absurd p
    back (z ∷ zs) [] p = absurd p
    back (z ∷ zs) (t ∷ ts) p =
        let r = back zs ts p.1 in (
          (ap suc r.0.0, λ n m. cases (Memᴰ.cases_cons m) (λ e. rw e (omega arith, omega (arith, p.0.0))) (r.0.1 n)),
          ((omega arith, p.0.1), r.1),
        )

levelled-codec : (zs : List ℕ) → Codec (levelled zs) (λ ts. words_bytes (map level_count ts) ++ flat_map levels_bytes ts) (λ ts. Towers zs ts × (node_count (heights ts) ≤ 4096))
unfolding levelled
levelled-codec zs =
    codec_as (λ ts. (
      λ p. ((counts-towers zs ts).0 (p.0.0, p.0.1.0), leb-true (node_count (heights ts)) 4096 p.1),
      λ p. let c = (counts-towers zs ts).1 p.0 in ((c.0, (c.1, refl)), le-leb (node_count (heights ts)) 4096 p.1),
    ))
    (codec_test (λ ts. leb (node_count (heights ts)) 4096) 22
    (codec_then {Q = λ ns ts. Counted zs ns ts × (map level_count ts ≡ ns)} (map level_count) (λ ns ts q. q.1) (words_codec (field_codec 1 5 21 (omega arith)) (length zs))
    (λ ns c. codec_as (λ ts. (λ p. (p, counted-counts zs ns ts c p), λ p. p.0)) (towers-codec zs ns))))

pub family-codec : (opening : List ℕ) → length opening ≡ 4 → Codec (family opening) (family_bytes opening) Shaped
unfolding family
family-codec opening four =
    codec_as (λ f. (
      λ p. record { sized = p.0; towers = p.1.0; few = p.1.1 },
      λ s. (s.sized, (s.towers, s.few)),
    ))
    (codec_pair (λ zs ts. record { sizes = zs; levels = ts }) (λ f. f.sizes) (λ f. f.levels) (λ f. refl) (λ zs ts. refl) (λ zs ts. refl)
    (header_codec opening four) (λ zs p. levelled-codec zs))
