-- The entries of an archive as bytes: what is written is read back, and what was read stands there.
use mathlib.Core.Path.{◌≡◌, refl, ap}
use mathlib.Core.Bool.{true}
use mathlib.Core.Logic.{◌↔◌}
use mathlib.Core.List.{List, [], ◌∷◌, ◌++◌, flat_map}
use Prim.Native.Nat.{ℕ, zero, suc, ◌+◌, ◌^◌, ◌≤◌, ◌<◌}
use native.Mathlib.Omega.{arith}
use lib.IntN.{ℤ}
use lib.ListN.{length}
use lib.Signed.{mag}
use Rattle.lists.specs.Lists.{◌∈◌}
use Rattle.lists.specs.Order.{earlier}
use Rattle.lists.proofs.Pigeonhole.{no_more}
use Rattle.fields.specs.Words.{word_bytes, words_bytes}
use Rattle.fields_sums.specs.Twos.{sum_bytes}
use Rattle.fields_walk.specs.Parsed.{Parsed, got, and_then, stop_unless, many}
use Rattle.fields_walk.specs.Fields.{word, sum}
use Rattle.fields_walk.specs.Limits.{Below}
use Rattle.fields_walk.proofs.Steps.{then_made}
use Rattle.fields_walk.proofs.Codec.{Codec, codec_same, codec_as, codec_test, pair, codec_pair, codec_count}
use Rattle.fields_walk.proofs.Many.{flat-each, Cons, codec_nil, codec_cons, words_codec, many_codec}
use Rattle.fields_walk.proofs.Codecs.{word_codec, sum_codec, field_codec, codes_codec}
use Rattle.cube.specs.declared.Total.{Total}
use Rattle.cube.specs.Measure.{Row}
use Rattle.archive_entries.specs.Layout.{Based, cell_bytes, base_bytes}
use Rattle.archive_entries.specs.Reading.{rising, fair, amount, list, entry, entries, bases, cell, cells}

-- words of any value
abbrev pub Words : ℕ → List ℕ → Type 0
Words n ws = (length ws ≡ n) × ((w : ℕ) → w ∈ ws → w < 2 ^ 32)

-- a sum and a count of any value
abbrev pub Wide : Total → Type 0
Wide t = (mag t.sum < 2 ^ 63) × (t.count < 2 ^ 32)

abbrev total : ℤ → ℕ → Total
total z n = record { sum = z; count = n }

abbrev row : List ℕ → Total → Row Total
row x t = record { codes = x; total = t }

abbrev based : Row Total → List ℕ → Based
based r ss = record { row = r; list = ss }

-- a sum and a count
abbrev total_bytes : Total → List ℕ
total_bytes t = sum_bytes t.sum ++ word_bytes t.count

abbrev amounts : List ℕ → Parsed Total
amounts = pair total sum (λ z. word)

amounts_codec : Codec amounts total_bytes Wide
amounts_codec = codec_pair total (λ t. t.sum) (λ t. t.count) (λ t. refl) (λ z n. refl) (λ z n. refl) sum_codec (λ z p. word_codec)

amount_codec : (before : ℕ) → Codec (amount before) total_bytes (λ t. Wide t × (fair before t.sum t.count ≡ true))
unfolding amount
amount_codec before = codec_same (λ l. then_made total (sum l) (λ z. word) (λ t rest. stop_unless (fair before t.sum t.count) 8 (got t rest)))
    (codec_test (λ t. fair before t.sum t.count) 8 amounts_codec)

-- codes with a sum and a count
module _ {f : List ℕ → Parsed (List ℕ)} {g : List ℕ → Parsed Total} {P : List ℕ → Type 0} {Q : Total → Type 0} where
  row_codec : Codec f words_bytes P → Codec g total_bytes Q → Codec (pair row f (λ x. g)) cell_bytes (λ r. P r.codes × Q r.total)
  unfolding cell_bytes
  row_codec c k = codec_pair row (λ r. r.codes) (λ r. r.total) (λ r. refl) (λ x t. refl) (λ x t. refl) c (λ x p. k)

-- ---- a normal entry

pub cell_codec : (d : ℕ) → Codec (cell d) cell_bytes (λ r. Words d r.codes × Wide r.total)
unfolding cell
cell_codec d = codec_same (λ l i. and_then (many d word l) (λ x rest. then_made total (sum rest) (λ z. word) (λ t rest'. got (row x t) rest') i))
    (row_codec (words_codec word_codec d) amounts_codec)

-- ---- a base entry

rising_codec : (zs x : List ℕ) → ((z : ℕ) → z ∈ zs → z ≤ 2 ^ 32) → Codec (rising zs x) words_bytes (λ y. Below zs y × (earlier x y ≡ true))
unfolding rising
rising_codec zs x h = codec_test (earlier x) 7 (codes_codec zs h)

-- a list: its length, and its sets
pub list_codec : Codec list (λ ss. word_bytes (length ss) ++ words_bytes ss) (λ ss. ((0 ≤ length ss) × (length ss < 71)) × ((s : ℕ) → s ∈ ss → s < 2 ^ 32))
unfolding list
list_codec = codec_count (field_codec 0 71 9 (omega arith)) (words_codec word_codec)

-- what a base entry has, behind codes x and a total count
pub record Enters (zs x : List ℕ) (before : ℕ) (b : Based) : Type 0 where
  pub below : Below zs b.row.codes
  pub after : earlier x b.row.codes ≡ true
  pub wide : Wide b.row.total
  pub fits : fair before b.row.total.sum b.row.total.count ≡ true
  pub short : length b.list ≤ 70
  pub sets : (s : ℕ) → s ∈ b.list → s < 2 ^ 32

entry_codec : (zs x : List ℕ) (before : ℕ) → ((z : ℕ) → z ∈ zs → z ≤ 2 ^ 32) → Codec (entry zs x before) base_bytes (Enters zs x before)
unfolding entry base_bytes
entry_codec zs x before h =
    codec_as (λ b. (
      λ p. record { below = p.0.0.0; after = p.0.0.1; wide = p.0.1.0; fits = p.0.1.1; short = omega (arith, p.1.0.1); sets = p.1.1 },
      λ e. (((e.below, e.after), (e.wide, e.fits)), ((omega arith, omega (arith, e.short)), e.sets)),
    ))
    (codec_same (λ l. then_made row (rising zs x l) (λ y. amount before) (λ r rest. and_then (list rest) (λ ss rest'. got (based r ss) rest')))
    (codec_pair based (λ b. b.row) (λ b. b.list) (λ b. refl) (λ r s. refl) (λ r s. refl) (row_codec (rising_codec zs x h) (amount_codec before)) (λ r p. list_codec)))

-- n base entries, each told the codes and the total count before it
abbrev pub Entered : List ℕ → List ℕ → ℕ → List Based → Type 0
Entered zs x before [] = Unit {0}
Entered zs x before (b ∷ bs) = Enters zs x before b × Entered zs b.row.codes (before + b.row.total.count) bs

module _ (zs : List ℕ) (h : (z : ℕ) → z ∈ zs → z ≤ 2 ^ 32) where
  entries_codec : (n : ℕ) (x : List ℕ) (before : ℕ) → Codec (entries zs n x before) (flat_map base_bytes) (λ bs. (length bs ≡ n) × Entered zs x before bs)
  unfolding entries
  entries_codec zero x before = codec_as (λ bs. (λ e. rw e (refl, tt), λ p. no_more bs p.0)) (codec_nil (flat-each base_bytes))
  entries_codec (suc n) x before = codec_as each (codec_cons (flat-each base_bytes) (entry_codec zs x before h) (λ b p. entries_codec n b.row.codes (before + b.row.total.count)))
    where
      each : (bs : List Based) → Cons (Enters zs x before) (λ b bs. (length bs ≡ n) × Entered zs b.row.codes (before + b.row.total.count) bs) bs
          ↔ ((length bs ≡ suc n) × Entered zs x before bs)
      each [] = (λ p. absurd p, λ p. absurd (omega (arith, p.0)))
      each (b ∷ bs) = (λ p. (ap suc p.1.0, (p.0, p.1.1)), λ p. (p.1.0, (omega (arith, p.0), p.1.1)))

  -- the base count and the base entries
  pub bases_codec : Codec (bases zs) (λ bs. word_bytes (length bs) ++ flat_map base_bytes bs) (λ bs. ((0 ≤ length bs) × (length bs < 1025)) × Entered zs [] 0 bs)
  unfolding bases
  bases_codec = codec_count (field_codec 0 1025 5 (omega arith)) (λ n. entries_codec n [] 0)

-- the normal count and the normal entries
pub cells_codec : (d : ℕ) → Codec (cells d) (λ cs. word_bytes (length cs) ++ flat_map cell_bytes cs)
    (λ cs. (length cs < 2 ^ 32) × ((r : Row Total) → r ∈ cs → Words d r.codes × Wide r.total))
unfolding cells
cells_codec d = codec_count word_codec (many_codec (cell_codec d))
