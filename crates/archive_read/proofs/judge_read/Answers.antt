-- `archive_read::judge_read` meets its contract: the base rows fill the front of the array, and the archive is the one they require, or stop 12.
use mathlib.Core.Path.{◌≡◌, sym, ◌∙◌}
use mathlib.Core.List.{List}
use Prim.Native.Nat.{ℕ, ◌*◌}
use lib.ListN.{take}
use Rattle.lists.specs.Order.{same}
use Rattle.fields.specs.Words.{words_at}
use Rattle.rows.specs.Rows.{width, rows_of}
use Rattle.rows.proofs.Fronts.{fronted, of_front}
use Rattle.archive_entries.specs.Layout.{archive_bytes}
use Rattle.archive_entries.proofs.Fields.{accepted}
use Rattle.archive_judge.specs.Read.{Read}
use Rattle.archive_read.proofs.Reading.{read-size, read_of, passed_required, stopped_required}
use Rattle.archive_read.proofs.judge_read.Goals as goal
use Rattle.archive_read.proofs.judge_read.Goals.{After-rows_in-rows, After-is_required}

-- the base rows that were read are in the front of the array
front : (c : goal.After-rows_in-rows) → (let a = c.args in let h = a.archive.now.shape in Read a.archive.now.bytes.now h.dims h.bases (take (h.bases * width h.dims) a.rows.now))
front c = let a = c.args in let p = c.requires in read_of a.archive.now.bytes.now a.archive.now.walked a.rows.now p.in_bounds.0 p.in_bounds.1

-- whether the archive is the one that they require
told : (c : goal.After-is_required) → (let s = c.args.archive.now.bytes.now in let h = c.args.archive.now.shape in
    c.is_required.result ≡ same s (archive_bytes (words_at s h.dims 8) (rows_of h.dims h.bases (take (h.bases * width h.dims) c.args.rows.now))))
told c =
    let s = c.args.archive.now.bytes.now in
    of_front c.args.rows.now (λ (d n : ℕ) (ws : List ℕ). c.is_required.result ≡ same s (archive_bytes (words_at s d 8) (rows_of d n ws))) c.rows_in-rows.ensures c.is_required.ensures.value

pub rows_in-rows-requires : goal.rows_in-rows-requires
rows_in-rows-requires c =
    let a = c.args in
    let p = c.requires in
    ((accepted a.archive.now.bytes.now a.archive.now.shape a.archive.now.walked).few, read-size a.archive.now.bytes.now a.archive.now.walked a.rows.now p.in_bounds.0 p.in_bounds.1)

pub is_required-requires : goal.is_required-requires
is_required-requires c =
    let a = c.args in
    let p = c.requires.in_bounds_2 in
    (fronted a.rows.now (Read a.archive.now.bytes.now) c.rows_in-rows.ensures (front (goal.at.is_required-requires c).After-rows_in-rows), p.0, p.1)

pub returns-then-is_required-clause-value : goal.returns-then-is_required-clause-value
returns-then-is_required-clause-value c =
    passed_required c.args.archive.now.walked (front (goal.at.returns-then-is_required-clause-value c).After-rows_in-rows) (sym c.if-is_required.true ∙ told (goal.at.returns-then-is_required-clause-value c).After-is_required)

pub returns-else-is_required-clause-value : goal.returns-else-is_required-clause-value
returns-else-is_required-clause-value c =
    stopped_required c.args.archive.now.walked (front (goal.at.returns-else-is_required-clause-value c).After-rows_in-rows) (sym c.if-is_required.false ∙ told (goal.at.returns-else-is_required-clause-value c).After-is_required)
