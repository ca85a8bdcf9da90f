-- A table is accepted exactly if it is the bytes of something within the limits, and what is read is what was written.
use mathlib.Core.Path.{◌≡◌, refl, sym, ap, ◌∙◌}
use mathlib.Core.Logic.{◌↔◌}
use mathlib.Core.List.{List, [], ◌++◌, flat_map}
use Prim.Native.Nat.{ℕ, ◌^◌, ◌≤◌}
use native.Mathlib.Omega.{arith}
use lib.IntN.{ℤ}
use lib.ListN.{length}
use Rattle.lists.specs.Lists.{◌∈◌}
use Rattle.fields.specs.Words.{word_bytes}
use Rattle.fields_walk.specs.Parsed.{Parsed, got, and_then, many}
use Rattle.fields_walk.specs.Fields.{field, header, header_bytes}
use Rattle.fields_walk.specs.Limits.{Bytes}
use Rattle.fields_walk.proofs.Steps.{then_assoc, then_made}
use Rattle.fields_walk.proofs.Codec.{Codec, codec_as, pair, codec_made, codec_pair, codec_count}
use Rattle.fields_walk.proofs.Many.{many_codec}
use Rattle.fields_walk.proofs.Codecs.{reading_codec, field_codec, codes_codec}
use Rattle.fields_walk.proofs.Ends.{header_codec, sizes-words, closing, closed, closed-back, closed_forth}
use Rattle.cube.specs.declared.Total.{Total}
use Rattle.cube.specs.Measure.{Row}
use Rattle.table.specs.Layout.{FACT, Records, row_bytes, table_bytes, Reads, TableLimits}
use Rattle.table.specs.Reading.{row, body, read_table}

-- a row of a table that was read
abbrev pub read : List ℕ → ℤ → Row Total
read x z = record { codes = x; total = record { sum = z; count = 1 } }

row_codec : (zs : List ℕ) → ((z : ℕ) → z ∈ zs → z ≤ 2 ^ 32) → Codec (row zs) row_bytes (Reads zs)
unfolding row
row_codec zs h =
    codec_as (λ r. (
      λ p. record { below = p.0; reading = p.1.0; once = ap (λ (q : Row Total). q.total.count) (sym p.1.1) },
      λ q. (q.below, (q.reading, λ i. record { codes = r.codes; total = record { sum = r.total.sum; count = sym q.once i } })),
    ))
    (codec_made read (λ r. r.codes) (λ r. r.total.sum) (λ x z. refl) (λ x z. refl) (codes_codec zs h) (λ x p. reading_codec))

abbrev pub held : List ℕ → List (Row Total) → Records
held zs rs = record { sizes = zs; rows = rs }

-- what is read behind the rows, and behind the row count
module _ (s zs : List ℕ) where
  abbrev pub rowed : List (Row Total) → List ℕ → Parsed Records
  rowed rs = closing s (held zs rs)

  abbrev pub counted : ℕ → List ℕ → Parsed Records
  counted n rest = and_then (many n (row zs) rest) rowed

-- what stands before the check word
abbrev pub rows : List ℕ → List ℕ → Parsed (List (Row Total))
rows zs l = and_then (field 0 1025 5 l) (λ n. many n (row zs))

held_codec : Codec (pair held (header FACT) rows) (λ t. header_bytes FACT t.sizes ++ (word_bytes (length t.rows) ++ flat_map row_bytes t.rows)) TableLimits
held_codec =
    codec_as (λ t. (
      λ p. record { sized = p.0; few = omega (arith, p.1.0.1); each = p.1.1 },
      λ l. (l.sized, ((omega arith, omega (arith, l.few)), l.each)),
    ))
    (codec_pair held (λ t. t.sizes) (λ t. t.rows) (λ t. refl) (λ zs rs. refl) (λ zs rs. refl) (header_codec FACT refl)
    (λ zs p. codec_count (field_codec 0 1025 5 (omega arith)) (many_codec (row_codec zs (sizes-words p)))))

pub table_as : (s : List ℕ) → read_table s ≡ closed (pair held (header FACT) rows) s
unfolding read_table body
table_as s =
    (λ i. and_then (header FACT s) (λ zs l. sym (then_assoc (field 0 1025 5 l) (λ n. many n (row zs)) (rowed s zs)) i))
    ∙ then_made held (header FACT s) rows (closing s)

pub table_forth : (s : List ℕ) (t : Records) (rest : List ℕ) → Bytes s → read_table s ≡ got t rest → TableLimits t × (s ≡ table_bytes t) × (rest ≡ [])
unfolding table_bytes
table_forth s t rest b e = closed_forth held_codec s t rest b (sym (table_as s) ∙ e)

pub table-back : (t : Records) → TableLimits t → read_table (table_bytes t) ≡ got t []
unfolding table_bytes
table-back t l = table_as (table_bytes t) ∙ closed-back held_codec t l

-- A table is accepted exactly if it is the bytes of something within the limits; that is what it holds.
pub accepted_iff : (s : List ℕ) (t : Records) → Bytes s → (read_table s ≡ got t []) ↔ (TableLimits t × (s ≡ table_bytes t))
accepted_iff s t b = (
  λ e. let r = table_forth s t [] b e in (r.0, r.1),
  λ h. ap read_table h.1 ∙ table-back t h.0,
)
