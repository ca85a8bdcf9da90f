-- The entries of an archive as bytes: what is written is read back, and what was read stands there.
use mathlib.Core.Path.{◌≡◌, refl, sym, ap, ◌∙◌, subst}
use mathlib.Core.Bool.{Bool, true, false}
use mathlib.Core.Logic.{◌↔◌}
use mathlib.Core.List.{List, [], ◌∷◌, ◌++◌, flat_map}
use Prim.Native.Nat.{ℕ, zero, suc, ◌+◌, ◌^◌, ◌≤◌, ◌<◌}
use native.Mathlib.Omega.{arith}
use lib.IntN.{ℤ}
use lib.ListN.{length}
use lib.Signed.{mag}
use Rattle.lists.specs.Lists.{◌∈◌}
use Rattle.lists.specs.Order.{earlier}
use Rattle.lists.proofs.Pigeonhole.{no_more}
use Rattle.fields.specs.Words.{word_bytes, words_bytes}
use Rattle.fields.specs.WordsLaws.{words_bytes_append}
use Rattle.fields_sums.specs.Twos.{sum_bytes}
use Rattle.fields_walk.specs.Parsed.{Parsed, stop, got, and_then, stop_unless, many}
use Rattle.fields_walk.specs.Fields.{word, sum}
use Rattle.fields_walk.specs.Limits.{Below}
use Rattle.fields_walk.proofs.Steps.{then_made}
use Rattle.fields_walk.proofs.Codec.{Codec, codec_same, codec_as, codec_test, codec_map, pair, codec_pair, codec_count}
use Rattle.fields_walk.proofs.Many.{flat-each, Cons, codec_nil, codec_cons, words_codec, many_codec}
use Rattle.fields_walk.proofs.Codecs.{word_codec, sum_codec, field_codec, codes_codec}
use Rattle.cube.specs.declared.Total.{Total}
use Rattle.cube.specs.declared.Figures.{Figures}
use Rattle.cube.specs.declared.Extremes.{Extremes}
use Rattle.cube.specs.Measure.{Row}
use Rattle.cube.specs.Extremes.{Readings}
use Rattle.cube.specs.Bounds.{can_make}
use Rattle.archive_entries.specs.Reading.{rising, fair, amount}
use Rattle.archive_entries.proofs.Fair.{fair_true}
use Rattle.archive_editions.specs.Edition.{Edition, words_in, Kept}
use Rattle.archive_editions.specs.Format.{Format}
use Rattle.archive_editions.specs.Layout.{Based, total_front, cell_words, base_bytes}
use Rattle.archive_editions.specs.Reading.{extremes, list, entry, entries, bases, cells}
use Rattle.archive_editions.proofs.Editions.{Small, Tells, words-wide, words-small}
use Rattle.archive_editions.proofs.Formats.{Words}

-- a sum and a count of any value
abbrev pub Wide : Total → Type 0
Wide t = (mag t.sum < 2 ^ 63) × (t.count < 2 ^ 32)

abbrev total : ℤ → ℕ → Total
total z n = record { sum = z; count = n }

abbrev figure : Total → Extremes → Figures
figure t e = record { sums = t; extremes = e }

abbrev row : List ℕ → Figures → Row Figures
row x f = record { codes = x; total = f }

abbrev based : Row Figures → List ℕ → Based
based r ss = record { row = r; list = ss }

-- ---- the sum and the count

abbrev amount_bytes : Total → List ℕ
amount_bytes t = sum_bytes t.sum ++ word_bytes t.count

amounts_codec : Codec (pair total sum (λ z. word)) amount_bytes Wide
amounts_codec = codec_pair total (λ t. t.sum) (λ t. t.count) (λ t. refl) (λ z n. refl) (λ z n. refl) sum_codec (λ z p. word_codec)

amount_codec : (before : ℕ) → Codec (amount before) amount_bytes (λ t. Wide t × (fair before t.sum t.count ≡ true))
unfolding amount
amount_codec before = codec_same (λ l. then_made total (sum l) (λ z. word) (λ t rest. stop_unless (fair before t.sum t.count) 8 (got t rest)))
    (codec_test (λ t. fair before t.sum t.count) 8 amounts_codec)

-- ---- the codes, and the list

rising_codec : (zs x : List ℕ) → ((z : ℕ) → z ∈ zs → z ≤ 2 ^ 32) → Codec (rising zs x) words_bytes (λ y. Below zs y × (earlier x y ≡ true))
unfolding rising
rising_codec zs x h = codec_test (earlier x) 7 (codes_codec zs h)

-- a list: its length, and its nodes
list_codec : (limit : ℕ) → limit ≤ 2 ^ 32 → Codec (list limit) (λ ss. word_bytes (length ss) ++ words_bytes ss) (λ ss. ((0 ≤ length ss) × (length ss < limit)) × Small ss)
unfolding list
list_codec limit h = codec_count (field_codec 0 limit 9 h) (words_codec word_codec)

-- a test of what was read, and then a value made of it
test-made : {A B : Type 0} (t : A → Bool) (n : ℕ) (g : A → B) (p : Parsed A)
    → and_then p (λ x rest. stop_unless (t x) n (got (g x) rest)) ≡ and_then (and_then p (λ x rest. stop_unless (t x) n (got x rest))) (λ x rest. got (g x) rest)
test-made t n g (stop k) = refl
test-made t n g (got x rest) = go (t x)
  where
    go : (b : Bool) → stop_unless b n (got (g x) rest) ≡ and_then (stop_unless b n (got x rest)) (λ x rest. got (g x) rest)
    go true = refl
    go false = refl

-- bytes said otherwise
codec_bytes : {A : Type 0} {f : List ℕ → Parsed A} {bytes also : A → List ℕ} {P : A → Type 0} → ((x : A) → also x ≡ bytes x) → Codec f bytes P → Codec f also P
codec_bytes {f = f} e c = record {
  back = λ x l p. ap (λ (k : List ℕ). f (k ++ l)) (e x) ∙ c.back x l p;
  forth = λ x l rest b h. let r = c.forth x l rest b h in (r.0, r.1 ∙ ap (λ (k : List ℕ). k ++ rest) (sym (e x)));
}

-- ---- the extremes of an edition

module _ (E : Edition) where
  -- a total as bytes: sum, count, extremes
  abbrev total_bytes : Figures → List ℕ
  total_bytes f = amount_bytes f.sums ++ words_bytes (words_in E f.extremes)

  cell-parts : (r : Row Figures) → words_bytes (cell_words E.extra r) ≡ words_bytes r.codes ++ total_bytes r.total
  unfolding words_bytes
  cell-parts r = words_bytes_append r.codes (total_front E.extra r.total)

  module _ (tells : Tells E) where
    -- extremes, behind a sum and a count that so many readings can make
    extremes_codec : (t : Total) → can_make t.count t.sum ≡ true → Codec (extremes E t) (λ e. words_bytes (words_in E e)) (Kept E t)
    unfolding extremes
    extremes_codec t made =
        codec_as (λ e. (
          λ p. record { readings = readings e p; sound = p.0.1; back = p.1 },
          λ k. (((words-wide E tells e, words-small E e k.readings), k.sound), k.back),
        ))
        (codec_same (λ l. test-made (E.sound t) 19 (E.tells t) (many E.extra word l))
        (codec_map (E.tells t) (words_in E) (λ ws p. (tells.back t ws p.0.0 p.0.1 made p.1).0) (codec_test (E.sound t) 19 (words_codec word_codec E.extra))))
      where
        readings : (e : Extremes) → (Words E.extra (words_in E e) × (E.sound t (words_in E e) ≡ true)) × (E.tells t (words_in E e) ≡ e) → Readings e
        readings e p = subst Readings p.1 (tells.back t (words_in E e) p.0.0.0 p.0.0.1 made p.0.1).1

    figures_codec : (before : ℕ) → Codec (pair figure (amount before) (extremes E)) total_bytes
        (λ f. (Wide f.sums × (fair before f.sums.sum f.sums.count ≡ true)) × Kept E f.sums f.extremes)
    figures_codec before = codec_pair figure (λ f. f.sums) (λ f. f.extremes) (λ f. refl) (λ t e. refl) (λ t e. refl) (amount_codec before)
        (λ t p. extremes_codec t (fair_true before t.sum t.count p.1).1)

-- ---- the entries of a format

module _ {H : Type 0} (F : Format H) where
  -- what a base entry has, behind codes x and a total count
  pub record Enters (zs x : List ℕ) (before : ℕ) (b : Based) : Type 0 where
    pub below : Below zs b.row.codes
    pub after : earlier x b.row.codes ≡ true
    pub wide : Wide b.row.total.sums
    pub fits : fair before b.row.total.sums.sum b.row.total.sums.count ≡ true
    pub kept : Kept F.edition b.row.total.sums b.row.total.extremes
    pub short : length b.list < F.limit
    pub nodes : Small b.list

  -- n base entries, each told the codes and the total count before it
  abbrev pub Entered : List ℕ → List ℕ → ℕ → List Based → Type 0
  Entered zs x before [] = Unit {0}
  Entered zs x before (b ∷ bs) = Enters zs x before b × Entered zs b.row.codes (before + b.row.total.sums.count) bs

  abbrev row_reader : List ℕ → List ℕ → ℕ → List ℕ → Parsed (Row Figures)
  row_reader zs x before = pair row (rising zs x) (λ y. pair figure (amount before) (extremes F.edition))

  entry_reader : (zs x : List ℕ) (before : ℕ) (l : List ℕ) → entry F zs x before l ≡ pair based (row_reader zs x before) (λ r. list F.limit) l
  unfolding entry
  entry_reader zs x before l =
      (λ i. and_then (rising zs x l) (λ y rest. then_made figure (amount before rest) (extremes F.edition) (λ f rest'. and_then (list F.limit rest') (λ ss rest''. got (based (row y f) ss) rest'')) i))
      ∙ then_made row (rising zs x l) (λ y. pair figure (amount before) (extremes F.edition)) (λ r rest. and_then (list F.limit rest) (λ ss rest'. got (based r ss) rest'))

  -- a row with its sum, count and extremes
  abbrev Rowed : List ℕ → List ℕ → ℕ → Row Figures → Type 0
  Rowed zs x before r =
      (Below zs r.codes × (earlier x r.codes ≡ true)) × ((Wide r.total.sums × (fair before r.total.sums.sum r.total.sums.count ≡ true)) × Kept F.edition r.total.sums r.total.extremes)

  module _ (tells : Tells F.edition) (limit : F.limit ≤ 2 ^ 32) where
    row_codec : (zs x : List ℕ) (before : ℕ) → ((z : ℕ) → z ∈ zs → z ≤ 2 ^ 32) → Codec (row_reader zs x before) (λ r. words_bytes (cell_words F.edition.extra r)) (Rowed zs x before)
    row_codec zs x before h = codec_bytes (cell-parts F.edition)
        (codec_pair row (λ r. r.codes) (λ r. r.total) (λ r. refl) (λ y f. refl) (λ y f. refl) (rising_codec zs x h) (λ y p. figures_codec F.edition tells before))

    entry_codec : (zs x : List ℕ) (before : ℕ) → ((z : ℕ) → z ∈ zs → z ≤ 2 ^ 32) → Codec (entry F zs x before) (base_bytes F.edition.extra) (Enters zs x before)
    unfolding base_bytes
    entry_codec zs x before h =
        codec_as (λ b. (
          λ p. record { below = p.0.0.0; after = p.0.0.1; wide = p.0.1.0.0; fits = p.0.1.0.1; kept = p.0.1.1; short = p.1.0.1; nodes = p.1.1 },
          λ e. (((e.below, e.after), ((e.wide, e.fits), e.kept)), ((omega arith, e.short), e.nodes)),
        ))
        (codec_same (entry_reader zs x before)
        (codec_pair based (λ b. b.row) (λ b. b.list) (λ b. refl) (λ r s. refl) (λ r s. refl) (row_codec zs x before h) (λ r p. list_codec F.limit limit)))

    module _ (zs : List ℕ) (h : (z : ℕ) → z ∈ zs → z ≤ 2 ^ 32) where
      entries_codec : (n : ℕ) (x : List ℕ) (before : ℕ) → Codec (entries F zs n x before) (flat_map (base_bytes F.edition.extra)) (λ bs. (length bs ≡ n) × Entered zs x before bs)
      unfolding entries
      entries_codec zero x before = codec_as (λ bs. (λ e. rw e (refl, tt), λ p. no_more bs p.0)) (codec_nil (flat-each (base_bytes F.edition.extra)))
      entries_codec (suc n) x before =
          codec_as each (codec_cons (flat-each (base_bytes F.edition.extra)) (entry_codec zs x before h) (λ b p. entries_codec n b.row.codes (before + b.row.total.sums.count)))
        where
          each : (bs : List Based) → Cons (Enters zs x before) (λ b bs. (length bs ≡ n) × Entered zs b.row.codes (before + b.row.total.sums.count) bs) bs
              ↔ ((length bs ≡ suc n) × Entered zs x before bs)
          each [] = (λ p. absurd p, λ p. absurd (omega (arith, p.0)))
          each (b ∷ bs) = (λ p. (ap suc p.1.0, (p.0, p.1.1)), λ p. (p.1.0, (omega (arith, p.0), p.1.1)))

    -- the base count and the base entries
    pub bases_codec : (h : H) → ((z : ℕ) → z ∈ F.sizes h → z ≤ 2 ^ 32)
        → Codec (bases F h) (λ bs. word_bytes (length bs) ++ flat_map (base_bytes F.edition.extra) bs) (λ bs. ((0 ≤ length bs) × (length bs < 1025)) × Entered (F.sizes h) [] 0 bs)
    unfolding bases
    bases_codec h k = codec_count (field_codec 0 1025 5 (omega arith)) (λ n. entries_codec (F.sizes h) k n [] 0)

  -- the normal count and the normal entries
  pub cells_codec : (h : H) → Codec (cells F h) (λ cs. word_bytes (length cs) ++ flat_map words_bytes cs)
      (λ cs. (length cs < 2 ^ 32) × ((c : List ℕ) → c ∈ cs → Words (F.width h + 3 + F.edition.extra) c))
  unfolding cells
  cells_codec h = codec_count word_codec (many_codec (words_codec word_codec (F.width h + 3 + F.edition.extra)))
