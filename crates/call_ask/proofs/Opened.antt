-- An accepted archive: the base rows that its array holds are ready, and its bytes and entries are those that they require.
use mathlib.Core.Path.{◌≡◌, refl, sym, ap, subst, ◌∙◌}
use mathlib.Core.Bool.{true, false, false≢true}
use mathlib.Core.List.{List, []}
use Prim.Native.Nat.{ℕ, ◌*◌, ◌≤◌}
use lib.ListN.{length, take}
use Rattle.std.specs.Prelude.{Ok}
use Rattle.rows.proofs.Rows.{rows_small}
use Rattle.rows.proofs.Fronts.{Front, fronted}
use Rattle.fields_walk.specs.Parsed.{Parsed, stop, got}
use Rattle.rows.specs.Rows.{width, rows_of}
use Rattle.archive_entries.specs.Layout.{Held, required, archive_bytes}
use Rattle.archive_entries.specs.Reading.{walk_archive, read_archive, rows_in, archive_answer, Stored}
use Rattle.archive_entries.specs.declared.Shape.{Shape}
use Rattle.archive_entries.proofs.Accepted.{read_forth, archive_forth}
use Rattle.archive_entries.proofs.Bytes.{read_bytes}
use Rattle.fields.specs.Words.{words_at}
use Rattle.archive_normals.specs.Grouped.{Grouped}
use Rattle.archive_judge.proofs.Judged.{sizes-at, read-ready}
use Rattle.archive_read.proofs.Reading.{read_of}
use Rattle.call_answers.proofs.Opened.{Opened}
use Rattle.call_ask.specs.Accepts.{Accepts}
use Rattle.call_ask.specs.declared.Accepted.{Accepted}

-- the front of the array
abbrev pub OpenedIn : (s : List ℕ) (d n m : ℕ) (ws : List ℕ) → Type 0
OpenedIn s d n m ws = Opened s d n m (take (n * width d) ws)

told : (p : Parsed Held) {e : Shape} → archive_answer p ≡ Ok e
    → (a : Held) × (rest : List ℕ) × (p ≡ got a rest) × (length a.sizes ≡ e.dims) × (length a.bases ≡ e.bases) × (length a.cells ≡ e.cells)
told (stop k) h = let z : false ≡ true = cc in absurd (false≢true z)
told (got a rest) {e} h =
    let f : record { dims = length a.sizes; bases = length a.bases; cells = length a.cells } ≡ e = cc in
    (a, rest, refl, ap (λ (x : Shape). x.dims) f, ap (λ (x : Shape). x.bases) f, ap (λ (x : Shape). x.cells) f)

-- the slots of the rows that the walk told of are those of the rows that were read
pub grouped-read : (s : List ℕ) {e f : Shape} (ws : List ℕ) {store used : List ℕ} → archive_answer (walk_archive s) ≡ Ok e → archive_answer (read_archive s) ≡ Ok f
    → Grouped e.dims e.bases (take (e.bases * width e.dims) ws) store used → Grouped f.dims f.bases (take (f.bases * width f.dims) ws) store used
grouped-read s {e} {f} ws {store} {used} h k g =
    let t = told (read_archive s) k in
    let same : e ≡ f = cc (sym h ∙ ap archive_answer ((read_forth s t.2).0 ∙ sym t.2) ∙ k) in
    subst (λ (x : Shape). Grouped x.dims x.bases (take (x.bases * width x.dims) ws) store used) same g

pub opened : {s ws : List ℕ} {e : Shape} → Accepts s ws e → OpenedIn s e.dims e.bases e.cells ws
opened {s} {ws} x =
    let t = told (read_archive s) x.told in
    let b = read_bytes s t.2 in
    let a = t.0 in
    let walked = (read_forth s t.2).0 in
    let same_read : read_archive s ≡ walk_archive s = t.2 ∙ sym walked in
    let stored : Stored (walk_archive s) ws = subst (λ (p : Parsed Held). Stored p ws) same_read x.stored in
    let r = read_of s (ap archive_answer (sym same_read) ∙ x.told) ws x.room stored in
    let e : got a t.1 ≡ got r.held [] = sym walked ∙ r.walked in
    let same-held : r.held ≡ a = cc e in
    let done : t.1 ≡ [] = cc e in
    record {
      are = b;
      held = a;
      read = t.2 ∙ ap (got a) done;
      sizes = sizes-at s (walked ∙ ap (got a) done) ∙ ap (λ (k : ℕ). words_at s k 8) t.3;
      dims = t.3;
      bases = t.4;
      cells = t.5;
      ready = read-ready b r;
      rows = r.rows ∙ ap rows_in same-held;
    }

-- an archive that was accepted, and its base rows as they are lent
pub opened_of : (a : Accepted) → OpenedIn a.bytes.now a.shape.dims a.shape.bases a.shape.cells a.words.now
opened_of a = opened a.accepts

pub opened_rows : {d n : ℕ} {ws : List ℕ} (a : Accepted) → Front a.shape.dims a.shape.bases a.words.now d n ws → Opened a.bytes.now d n a.shape.cells ws
opened_rows a f = fronted a.words.now (λ d n ws. Opened a.bytes.now d n a.shape.cells ws) f (opened_of a)

module _ {s : List ℕ} {d n m : ℕ} {ws : List ℕ} (o : Opened s d n m ws) where
  pub opened_small : n * width d ≤ 11264
  opened_small = rows_small d n o.ready.dims o.ready.few

  pub opened_bytes : s ≡ archive_bytes o.held.sizes (rows_of d n ws)
  opened_bytes = (archive_forth s o.held [] o.are o.read).1 ∙ ap (archive_bytes o.held.sizes) (sym o.rows)

  pub opened_held : o.held ≡ required o.held.sizes (rows_of d n ws)
  opened_held = (archive_forth s o.held [] o.are o.read).2 ∙ ap (required o.held.sizes) (sym o.rows)
