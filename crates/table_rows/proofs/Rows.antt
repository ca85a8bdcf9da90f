-- The rows of a table that was read stand behind its header, one after the other.
use Rattle.std.specs.Prelude.{Result, Ok, Err}
use mathlib.Core.Path.{◌≡◌, refl, sym, ap, ap₂, ◌∙◌, subst}
use mathlib.Core.List.Memᴰ
use mathlib.Core.List.{List, [], ◌∷◌}
use Prim.Native.Nat.{ℕ, zero, suc, ◌+◌, ◌*◌, ◌^◌, ◌≤◌, ◌<◌}
use native.Mathlib.Omega.{arith}
use lib.IntN.{ℤ, pos, negsuc, nat_abs}
use lib.ListN.{length, drop}
use lib.Signed.{mag}
use Rattle.lists.specs.Lists.{◌∈◌}
use Rattle.fields.specs.Words.{word_at, words_at}
use Rattle.fields_walk.specs.Parsed.{stop, got, many}
use Rattle.fields_walk.specs.Fields.{header}
use Rattle.fields_walk.specs.Limits.{Bytes}
use Rattle.fields_walk.proofs.Steps.{through_pair}
use Rattle.fields_walk.proofs.Found.{Finds, finds_to, finds_none, finds_then, finds_many, finds_field, finds_reading, finds_codes}
use Rattle.fields_walk.proofs.Places.{header_read}
use Rattle.fields_walk.proofs.Codec.{pair}
use Rattle.fields_walk.proofs.Ends.{closed-got}
use Rattle.fields_walk.proofs.Limits.{below-coded}
use Rattle.cube.specs.declared.Total.{Total}
use Rattle.cube.specs.Measure.{sums, Row}
use Rattle.cube.specs.Bounds.{count_of, Summable}
use Rattle.cube.specs.Codes.{Coded}
use Rattle.table.specs.Layout.{FACT, Records, Reads}
use Rattle.rows.specs.Rows.{rows_of}
use Rattle.rows.proofs.Flat.{rows-length}
use Rattle.cube.specs.Table.{folded}
use Rattle.table.specs.declared.Folded.{Folded}
use Rattle.table.specs.Reading.{row, read_table, record_there, rows_at, Rowed, base_rows, table_answer, Stored}
use Rattle.table.proofs.Accepted.{read, held, rows, table_as, table_forth}

module _ (s zs : List ℕ) where
  finds_row : (at : ℕ) → Finds s (row zs) at (at + (4 * length zs + 4)) (λ r. r ≡ record_there s (length zs) at)
  unfolding row
  finds_row at =
      let e : at + 4 * length zs + 4 ≡ at + (4 * length zs + 4) = omega arith in
      finds_to e (finds_then (finds_codes s zs at) (λ x p. finds_then (finds_reading s (at + 4 * length zs)) (λ z q. finds_none (read x z) (ap₂ read p q))))

  finds_rows : (n at : ℕ) → Finds s (many n (row zs)) at (at + n * (4 * length zs + 4)) (λ rs. rs ≡ rows_at s (length zs) n at)
  unfolding rows_at
  finds_rows = finds_many (4 * length zs + 4) finds_row (rows_at s (length zs)) (λ at. refl) (λ n at. refl)

  finds_counted : (at : ℕ) → Finds s (rows zs) at (at + 4 + word_at s at * (4 * length zs + 4)) (λ rs. rs ≡ rows_at s (length zs) (word_at s at) (at + 4))
  finds_counted at = finds_then (finds_field s 0 1025 5 at) (λ n e. rw (← e) (finds_rows n (at + 4)))

length-rows_at : (s : List ℕ) (d n at : ℕ) → length (rows_at s d n at) ≡ n
unfolding rows_at
length-rows_at s d zero at = refl
length-rows_at s d (suc n) at = ap suc (length-rows_at s d n (at + (4 * d + 4)))

-- what stands where in a table that was read
pub record Placed (s : List ℕ) (t : Records) : Type 0 where
  pub dims : length t.sizes ≡ word_at s 4
  pub some : 1 ≤ length t.sizes
  pub sizes : t.sizes ≡ words_at s (length t.sizes) 8
  pub whole : 12 + 4 * length t.sizes ≤ length s
  pub count : length t.rows ≡ word_at s (8 + 4 * length t.sizes)
  pub rows : t.rows ≡ rows_at s (length t.sizes) (length t.rows) (12 + 4 * length t.sizes)
  pub inside : 12 + 4 * length t.sizes + length t.rows * (4 * length t.sizes + 4) ≤ length s

pub placed : (s : List ℕ) (t : Records) {rest : List ℕ} → read_table s ≡ got t rest → Placed s t
placed s t e =
    let c = closed-got (pair held (header FACT) rows) s (sym (table_as s) ∙ e) in
    let u = through_pair held (header FACT s) rows c.1 in
    let zs = u.0 in
    let d = length zs in
    let p = header_read s FACT u.3 in
    let at : 8 + 4 * word_at s 4 ≡ 8 + 4 * d = omega (arith, p.dims) in
    let l : u.2 ≡ drop (8 + 4 * d) s = p.behind ∙ ap (λ (k : ℕ). drop k s) at in
    let w = (finds_counted s zs (8 + 4 * d)).found u.1 c.0 (omega (arith, p.whole, p.dims)) (ap (rows zs) (sym l) ∙ u.4) in
    let n : length u.1 ≡ word_at s (8 + 4 * d) = ap length w.2 ∙ length-rows_at s d (word_at s (8 + 4 * d)) (8 + 4 * d + 4) in
    let q : 8 + 4 * d + 4 ≡ 12 + 4 * d = omega arith in
    subst (Placed s) u.5 (record {
      dims = p.dims;
      some = omega (arith, p.some, p.dims);
      sizes = p.are ∙ ap (λ (k : ℕ). words_at s k 8) (sym p.dims);
      whole = omega (arith, w.0);
      count = n;
      rows = w.2 ∙ ap₂ (rows_at s d) (sym n) q;
      inside = rw (← q, n) w.0;
    })

-- rows within the limits can be totalled
abs_mag : (z : ℤ) → mag z < 2 ^ 31 → nat_abs z ≤ 2147483648
abs_mag (pos n) h = omega (arith, h)
abs_mag (negsuc n) h = omega (arith, h)

counts-few : (zs : List ℕ) (rows : List (Row Total)) → ((r : Row Total) → r ∈ rows → Reads zs r) → count_of rows ≡ length rows
counts-few zs [] h = refl
counts-few zs (r ∷ rows) h = omega (arith, (h r (Memᴰ.head refl)).once, counts-few zs rows (λ q m. h q (Memᴰ.tail m)))

pub rowed_table : (s : List ℕ) (t : Records) {rest : List ℕ} → Bytes s → read_table s ≡ got t rest → Rowed s (length t.sizes) (length t.rows)
rowed_table s t {rest} b e =
    let p = placed s t e in
    let l = (table_forth s t rest b e).0 in
    record {
      dims = l.sized.few;
      few = l.few;
      inside = p.inside;
      table = subst (λ (rows : List (Row Total)). (r : Row Total) → r ∈ rows → Coded (length t.sizes) r.codes) p.rows
          (λ r m. below-coded t.sizes r.codes (λ z i. (l.sized.each z i).1) (l.each r m).below);
      summable = subst Summable p.rows (record {
        each = λ r m. record { sum = omega (arith, abs_mag r.total.sum (l.each r m).reading, (l.each r m).once); count = omega (arith, (l.each r m).once) };
        few = omega (arith, counts-few t.sizes t.rows l.each, l.few);
      });
    }

-- the answer for a table that was read, where words have its base rows
abbrev answer : ℕ → ℕ → Result Folded ℕ
answer d r = Ok (record { dims = d; rows = r })

pub read_answer : (s : List ℕ) (t : Records) {rest : List ℕ} → read_table s ≡ got t rest → (d n r : ℕ) → d ≡ length t.sizes → n ≡ length t.rows
    → (ws : List ℕ) → rows_of d r ws ≡ folded sums d (rows_at s d n (12 + 4 * d))
    → (answer d r ≡ table_answer (read_table s)) × Stored (read_table s) ws
read_answer s t {rest} e d n r p q ws f =
    let w = (placed s t e).rows in
    let base : rows_of d r ws ≡ base_rows t
    = f ∙ ap₂ (λ (i j : ℕ). folded sums i (rows_at s i j (12 + 4 * i))) p q ∙ ap (folded sums (length t.sizes)) (sym w) in
    let size : r ≡ length (base_rows t) = sym (rows-length d r ws) ∙ ap length base in
    rw e (ap₂ answer p size, sym (ap₂ (λ (i j : ℕ). rows_of i j ws) p size) ∙ base)

pub stop-answer : (s : List ℕ) {n : ℕ} → read_table s ≡ stop n → (ws : List ℕ) → (Err n ≡ table_answer (read_table s)) × Stored (read_table s) ws
stop-answer s e ws = rw e (refl, tt)
