-- What the walk over an archive read, and what stop 12 makes of it.
use mathlib.Core.Path.{◌≡◌, sym, ap, ap₂, subst, ◌∙◌}
use mathlib.Core.Bool.{true, false, false≢true}
use mathlib.Core.List.{List, []}
use Prim.Native.Nat.{ℕ, ◌+◌, ◌*◌, ◌≤◌}
use native.Mathlib.Nat.{mul-le-mul_right}
use native.Mathlib.Omega.{arith}
use lib.ListN.{length, take, drop, get_or, length-drop}
use lib.Pow.{pow_mono}
use lib.Seq.{length-take-le}
use Rattle.rows.proofs.Rows.{rows_small}
use Rattle.lists.specs.Order.{same}
use Rattle.lists.proofs.Tests.{cases, truth}
use Rattle.fields.specs.Words.{words_at}
use Rattle.fields_walk.specs.Parsed.{Parsed, stop, got, and_then}
use Rattle.cube.specs.declared.Total.{Total}
use Rattle.cube.specs.Measure.{Row}
use Rattle.archive_entries.specs.Layout.{Held, archive_bytes}
use Rattle.archive_entries.specs.Reading.{walk_archive, judged, read_archive, rows_in, archive_answer, Stored}
use Rattle.std.specs.Prelude.{Ok, Err}
use Rattle.archive_entries.specs.declared.Shape.{Shape}
use Rattle.archive_entries.proofs.Fields.{Accepted, accepted}
use Rattle.archive_entries.proofs.Walkable.{walk_end}
use Rattle.rows_ready.proofs.Ready.{rows-front}
use Rattle.lattice.proofs.Sets.{full-lt}
use Rattle.rows.specs.Rows.{width, cut, rows_of}
use Rattle.rows_order.specs.Index.{key}
use Rattle.rows_slots.proofs.Entries.{slot-length}
use Rattle.archive_normals.specs.Grouped.{Grouped}
use Rattle.archive_judge.specs.Read.{Read}
use Rattle.archive_read.specs.Sharing.{Sharing, Shares}
use Rattle.archive_judge.proofs.Judged.{sizes-at}

stored-walked : (p : Parsed Held) {a : Held} {rest : List ℕ} (ws : List ℕ) → p ≡ got a rest → Stored p ws → rows_of (length a.sizes) (length a.bases) ws ≡ rows_in a
stored-walked p ws e h = subst (λ (q : Parsed Held). Stored q ws) e h

module _ (s : List ℕ) {shape : Shape} (e : archive_answer (walk_archive s) ≡ Ok shape) where
  abbrev d : ℕ
  d = shape.dims

  abbrev n : ℕ
  n = shape.bases

  abbrev walk : Accepted s d n
  walk = accepted s shape e

  walked : walk_archive s ≡ got walk.held []
  walked = walk.walked ∙ ap (got walk.held) (walk_end s walk.walked)

  read_small : n * width d ≤ 11264
  read_small = rows_small d n walk.few walk.few-bases

  module _ (ws : List ℕ) (room : 11264 ≤ length ws) (h : Stored (walk_archive s) ws) where
    pub read-size : n * width d ≤ length ws
    read-size = omega (arith, read_small, room)

    -- the rows that were read, in the part of the array that they fill
    pub read_of : Read s d n (take (n * width d) ws)
    read_of = record {
      held = walk.held;
      walked = walked;
      dims = walk.dims;
      size = sym (length-take-le (n * width d) ws read-size);
      rows = rows-front d n ws
          ∙ ap₂ (λ (i j : ℕ). rows_of i j ws) (sym walk.dims) (sym walk.count) ∙ stored-walked (walk_archive s) ws walk.walked h;
    }

-- ---- stop 12

module _ {s : List ℕ} {shape : Shape} {ws : List ℕ} (e : archive_answer (walk_archive s) ≡ Ok shape) (r : Read s shape.dims shape.bases ws) where
  due : same s (archive_bytes (words_at s shape.dims 8) (rows_of shape.dims shape.bases ws)) ≡ same s (archive_bytes r.held.sizes (rows_in r.held))
  due =
      ap₂ (λ (zs : List ℕ) (rows : List (Row Total)). same s (archive_bytes zs rows)) (sym (sizes-at s r.walked ∙ ap (λ (k : ℕ). words_at s k 8) r.dims)) r.rows

  pub passed_required : true ≡ same s (archive_bytes (words_at s shape.dims 8) (rows_of shape.dims shape.bases ws)) → Ok shape ≡ archive_answer (read_archive s)
  unfolding read_archive
  passed_required h = let g = sym (h ∙ due) in sym e ∙ rw (r.walked, g)

  pub stopped_required : false ≡ same s (archive_bytes (words_at s shape.dims 8) (rows_of shape.dims shape.bases ws)) → Err 12 ≡ archive_answer (read_archive s)
  unfolding read_archive
  stopped_required h = let g = sym (h ∙ due) in rw (r.walked, g)

pub stop-required : (s : List ℕ) {n : ℕ} → archive_answer (walk_archive s) ≡ Err n → Err n ≡ archive_answer (read_archive s)
unfolding read_archive
stop-required s {n} e = go (walk_archive s) e
  where
    go : (p : Parsed Held) → archive_answer p ≡ Err n → Err n ≡ archive_answer (and_then p (judged s))
    go (stop k) f = sym f
    go (got a rest) f = let z : false ≡ true = cc in absurd (false≢true z)

-- the rows stay stored
pub stored-required : (s ws : List ℕ) → Stored (walk_archive s) ws → Stored (read_archive s) ws
unfolding read_archive
stored-required s ws h = go (walk_archive s) h
  where
    go : (p : Parsed Held) → Stored p ws → Stored (and_then p (judged s)) ws
    go (stop n) f = tt
    go (got a rest) f = cases (truth (same s (archive_bytes a.sizes (rows_in a)))) (λ e. rw e f) (λ e. rw e tt)

-- ---- the rows that share a cell

-- as slots tell it
pub sharing_held : {d n : ℕ} {ws store used : List ℕ} → Grouped d n ws store used → Sharing d n ws used
sharing_held {d} {n} {ws} {store = store} {used = used} a = record {
  sets = a.sets;
  rows = λ s f.
      let g = a.slots.all s f in
      let k = a.ready.few in
      let below : s + 1 ≤ 256 = omega (arith, f, full-lt d, pow_mono {i = d} {j = 8} a.ready.dims) in
      let m : (s + 1) * 1024 ≤ 256 * 1024 = mul-le-mul_right 1024 below in
      let small : s * 1024 + 1024 ≤ 262144 = omega (arith, m) in
      sym (length-take-le (get_or used s 0) (drop (s * 1024) store) (omega (arith, g.few, k, small, a.room, length-drop (s * 1024) store)))
      ∙ ap length g.slot ∙ slot-length (key s (cut d n ws)) n 2 k;
}

-- as an answer tells the archive's numbers
pub shares-told : (p : Parsed Held) {shape : Shape} (ws used : List ℕ) → archive_answer p ≡ Ok shape → Sharing shape.dims shape.bases (take (shape.bases * width shape.dims) ws) used → Shares p ws used
shares-told (stop k) ws used e h = tt
shares-told (got a rest) {shape} ws used e h =
    let q : record { dims = length a.sizes; bases = length a.bases; cells = length a.cells } ≡ shape = cc in
    let f = ap (λ (z : Shape). z.dims) q in
    let g = ap (λ (z : Shape). z.bases) q in
    rw (f, g) h

-- they stay when the archive is judged
pub shares-required : (s ws used : List ℕ) → Shares (walk_archive s) ws used → Shares (read_archive s) ws used
unfolding read_archive
shares-required s ws used h = go (walk_archive s) h
  where
    go : (p : Parsed Held) → Shares p ws used → Shares (and_then p (judged s)) ws used
    go (stop n) f = tt
    go (got a rest) f = cases (truth (same s (archive_bytes a.sizes (rows_in a)))) (λ e. rw e f) (λ e. rw e tt)

-- nothing is asked where the walk stopped
pub shares-stop : (s : List ℕ) {n : ℕ} (ws used : List ℕ) → archive_answer (walk_archive s) ≡ Err n → Shares (read_archive s) ws used
unfolding read_archive
shares-stop s {n} ws used e = go (walk_archive s) e
  where
    go : (p : Parsed Held) → archive_answer p ≡ Err n → Shares (and_then p (judged s)) ws used
    go (stop k) f = tt
    go (got a rest) f = let z : false ≡ true = cc in absurd (false≢true z)
