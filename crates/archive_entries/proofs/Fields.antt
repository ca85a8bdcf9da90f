-- What is known of an archive whose fields are right: D, the base count, and the base entries behind them.
use Rattle.std.specs.Prelude.{Ok, Err}
use mathlib.Core.Path.{◌≡◌, refl, sym, ap, ◌∙◌, subst}
use mathlib.Core.Bool.{true, false, false≢true}
use mathlib.Core.List.{List, []}
use Prim.Native.Nat.{ℕ, ◌+◌, ◌*◌, ◌≤◌}
use native.Mathlib.Omega.{arith}
use lib.ListN.{length, drop}
use Rattle.fields_walk.specs.Parsed.{Parsed, stop, got}
use Rattle.fields_walk.specs.Fields.{header, close}
use Rattle.fields_walk.proofs.Steps.{through}
use Rattle.rows.specs.Rows.{rows_of}
use Rattle.archive_entries.specs.declared.Shape.{Shape}
use Rattle.archive_entries.specs.Layout.{CUBE, Based, Held}
use Rattle.archive_entries.specs.Reading.{entries, bases, cells, walk_archive, rows_in, archive_answer, Stored}
use Rattle.fields_walk.proofs.Places.{header_read}
use Rattle.archive_entries.proofs.Entries.{bases-read}
use Rattle.archive_entries.proofs.Walking.{closed, celled, based}

pub record Accepted (s : List ℕ) (d n : ℕ) : Type 0 where
  pub held : Held
  pub rest : List ℕ
  pub walked : walk_archive s ≡ got held rest
  pub dims : length held.sizes ≡ d
  pub count : length held.bases ≡ n
  pub few : d ≤ 8
  pub few-bases : n ≤ 1024
  pub whole : 12 + 4 * d ≤ length s
  pub end : List ℕ
  pub read : entries held.sizes n [] 0 (drop (12 + 4 * d) s) ≡ got held.bases end

-- the answer's numbers are those of what was read
told : (p : Parsed Held) {shape : Shape} → archive_answer p ≡ Ok shape → (a : Held) × (rest : List ℕ) × (p ≡ got a rest) × (length a.sizes ≡ shape.dims) × (length a.bases ≡ shape.bases)
told (stop k) e = let z : false ≡ true = cc in absurd (false≢true z)
told (got a rest) {shape} e =
    let q : record { dims = length a.sizes; bases = length a.bases; cells = length a.cells } ≡ shape = cc in
    (a, rest, refl, ap (λ (z : Shape). z.dims) q, ap (λ (z : Shape). z.bases) q)

from : (s : List ℕ) (a : Held) {l end rest : List ℕ} → walk_archive s ≡ got a rest → header CUBE s ≡ got a.sizes l → bases a.sizes l ≡ got a.bases end
    → Accepted s (length a.sizes) (length a.bases)
from s a {l} {end} {rest} w e f =
    let h = header_read s CUBE e in
    let p : l ≡ drop (8 + 4 * length a.sizes) s = h.behind ∙ ap (λ (n : ℕ). drop (8 + 4 * n) s) (sym h.dims) in
    let b = bases-read s a.sizes (8 + 4 * length a.sizes) (omega (arith, h.dims, h.whole)) (ap (bases a.sizes) (sym p) ∙ f) in
    let q : 8 + 4 * length a.sizes + 4 ≡ 12 + 4 * length a.sizes = omega arith in
    record {
      held = a;
      rest = rest;
      walked = w;
      dims = refl;
      count = refl;
      few = omega (arith, h.dims, h.few);
      few-bases = b.few;
      whole = omega (arith, b.whole);
      end = end;
      read = ap (λ (k : ℕ). entries a.sizes (length a.bases) [] 0 (drop k s)) (sym q) ∙ b.read;
    }

-- what was read came through the header and the base entries
pub parts : (s : List ℕ) {a : Held} {rest : List ℕ} → walk_archive s ≡ got a rest
    → (l : List ℕ) × (end : List ℕ) × (header CUBE s ≡ got a.sizes l) × (bases a.sizes l ≡ got a.bases end)
unfolding walk_archive
parts s {a} {rest} w =
    let t = through (header CUBE s) (based s) w in
    let u = through (bases t.0 t.1) (celled s t.0) t.3 in
    let v = through (cells (length t.0) u.1) (closed s t.0 u.0) u.3 in
    let x = through (close s v.1) (λ y l. got (record { sizes = t.0; bases = u.0; cells = v.0 }) l) v.3 in
    let e : record { sizes = t.0; bases = u.0; cells = v.0 } ≡ a = cc in
    let p : t.0 ≡ a.sizes = ap (λ b. b.sizes) e in
    let q : u.0 ≡ a.bases = ap (λ b. b.bases) e in
    (t.1, u.1, t.2 ∙ ap (λ (y : List ℕ). got y t.1) p, ap (λ (y : List ℕ). bases y t.1) (sym p) ∙ u.2 ∙ ap (λ (y : List Based). got y u.1) q)

pub accepted : (s : List ℕ) (shape : Shape) → archive_answer (walk_archive s) ≡ Ok shape → Accepted s shape.dims shape.bases
accepted s shape e =
    let t = told (walk_archive s) e in
    let p = parts s t.2 in
    subst (Accepted s shape.dims) t.4 (subst (λ (k : ℕ). Accepted s k (length t.0.bases)) t.3 (from s t.0 t.2 p.2 p.3))

-- rows that are the archive's are stored
pub accepted_stored : (s : List ℕ) (d n : ℕ) (a : Accepted s d n) (ws : List ℕ) → rows_of d n ws ≡ rows_in a.held → Stored (walk_archive s) ws
accepted_stored s d n a ws e = rw (a.walked, a.dims, a.count) e

-- nothing is asked of the words where the walk stopped
pub stopped_stored : (p : Parsed Held) {n : ℕ} (ws : List ℕ) → archive_answer p ≡ Err n → Stored p ws
stopped_stored (stop n) ws e = tt
stopped_stored (got a rest) ws e = let z : false ≡ true = cc in absurd (false≢true z)
