-- Why `build` writes the archive of a table: its base rows, stored in a flat list, are ready to be condensed, its sizes stand in its bytes, and what is written just if there is room for it answers the call.
use mathlib.Core.Path.{◌≡◌, refl, sym, ap, ap₂, subst, ◌∙◌}
use mathlib.Core.Bool.{true, false, false≢true}
use mathlib.Core.List.{List}
use Prim.Native.Nat.{ℕ, ◌+◌, ◌*◌, ◌≤◌}
use native.Mathlib.Omega.{arith}
use lib.ListN.{length, take}
use lib.Seq.{length-take-le}
use Rattle.std.specs.Prelude.{Ok, Err}
use Rattle.rows.proofs.Rows.{rows_small}
use Rattle.fields.specs.Words.{words_at}
use Rattle.fields_walk.specs.Parsed.{Parsed, stop, got}
use Rattle.fields_walk.specs.Limits.{Bytes}
use Rattle.cube.specs.declared.Total.{Total}
use Rattle.cube.specs.Measure.{Row}
use Rattle.rows.specs.Rows.{width, rows_of}
use Rattle.table.specs.Layout.{Records}
use Rattle.table.specs.Reading.{read_table, base_rows, table_answer, Stored}
use Rattle.table.specs.declared.Folded.{Folded}
use Rattle.table.proofs.Accepted.{table_forth}
use Rattle.table_rows.proofs.Rows.{placed}
use Rattle.archive_entries.specs.Layout.{archive_bytes, Limits}
use Rattle.rows_ready.specs.Ready.{Ready}
use Rattle.rows_ready.proofs.Ready.{rows-front}
use Rattle.archive_judge.proofs.Judged.{limits-ready}
use Rattle.call_answers.specs.Answers.{stop as stopped, bytes}
use Rattle.call_answers.specs.Calls.{builds}
use Rattle.call_answers.proofs.Folded.{folded-within}

-- ---- a table that was read

pub build-refused : (s : List ℕ) {k : ℕ} → table_answer (read_table s) ≡ Err k → builds s ≡ stopped k
unfolding builds
build-refused s {k} e = rw (go (read_table s) e)
  where
    go : (p : Parsed Records) → table_answer p ≡ Err k → p ≡ stop k
    go (stop n) f = let z : n ≡ k = cc in ap stop z
    go (got t rest) f = let z : false ≡ true = cc in absurd (false≢true z)

told : (p : Parsed Records) {f : Folded} → table_answer p ≡ Ok f → (t : Records) × (rest : List ℕ) × (p ≡ got t rest) × (length t.sizes ≡ f.dims) × (length (base_rows t) ≡ f.rows)
told (stop k) e = let z : false ≡ true = cc in absurd (false≢true z)
told (got t rest) {f} e =
    let g : record { dims = length t.sizes; rows = length (base_rows t) } ≡ f = cc in
    (t, rest, refl, ap (λ (x : Folded). x.dims) g, ap (λ (x : Folded). x.rows) g)

-- a flat list has the base rows of a table that was read
pub record Tabled (s : List ℕ) (d n : ℕ) (ws : List ℕ) : Type 0 where
  pub small : n * width d ≤ 11264
  pub headed : 8 + 4 * d ≤ length s
  pub ready : Ready d n ws
  pub limits : Limits (words_at s d 8) (rows_of d n ws)
  pub built : builds s ≡ bytes (archive_bytes (words_at s d 8) (rows_of d n ws))

pub tabled : {s : List ℕ} {f : Folded} → Bytes s → table_answer (read_table s) ≡ Ok f → (ws : List ℕ)
    → 11264 ≤ length ws → Stored (read_table s) ws → Tabled s f.dims f.rows (take (f.rows * width f.dims) ws)
unfolding builds
tabled {s} {f} b e ws room h =
    let d = f.dims in
    let n = f.rows in
    let x = told (read_table s) e in
    let t = x.0 in
    let l = folded-within t (table_forth s t x.1 b x.2).0 in
    let few : n ≤ 1024 = omega (arith, l.few, x.4) in
    let dims : d ≤ 8 = omega (arith, l.sized.few, x.3) in
    let small = rows_small d n dims few in
    let stored : rows_of (length t.sizes) (length (base_rows t)) ws ≡ base_rows t = subst (λ (p : Parsed Records). Stored p ws) x.2 h in
    let rows : rows_of d n (take (n * width d) ws) ≡ base_rows t
    = rows-front d n ws ∙ ap₂ (λ (i j : ℕ). rows_of i j ws) (sym x.3) (sym x.4) ∙ stored in
    let at = placed s t x.2 in
    let sizes : t.sizes ≡ words_at s d 8 = at.sizes ∙ ap (λ (k : ℕ). words_at s k 8) x.3 in
    record {
      small = small;
      headed = omega (arith, at.whole, x.3);
      ready = limits-ready l rows x.3 (sym (length-take-le (n * width d) ws (omega (arith, small, room))));
      limits = subst (λ (zs : List ℕ). Limits zs (rows_of d n (take (n * width d) ws))) sizes (subst (Limits t.sizes) (sym rows) l);
      built = rw x.2 (ap₂ (λ (zs : List ℕ) (r : List (Row Total)). bytes (archive_bytes zs r)) sizes (sym rows));
    }
