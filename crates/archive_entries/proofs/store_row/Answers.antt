-- `archive_entries::store_row` meets its contract: the row's words are those of the entry's fields.
use mathlib.Core.Path.{◌≡◌}
use Prim.Native.Nat.{◌+◌, ◌*◌, ◌-◌}
use native.Mathlib.Omega.{arith}
use lib.ListN.{length, take, drop, length-drop}
use lib.Seq.{length-take-le}
use Rattle.rows.specs.Rows.{width}
use Rattle.archive_entries.proofs.Storing.{row_read}
use Rattle.archive_entries.proofs.store_row.Goals as goal
use Rattle.archive_entries.proofs.store_row.Goals.{Start}

-- the words of row i are as many as a row has
part : (c : goal.Start) → (let a = c.args in length (take (a.i * width a.dims + width a.dims - a.i * width a.dims) (drop (a.i * width a.dims) a.rows.now)) ≡ width a.dims)
part c =
    let a = c.args in
    let e : a.i * width a.dims + width a.dims - a.i * width a.dims ≡ width a.dims = omega arith in
    rw e (length-take-le (width a.dims) (drop (a.i * width a.dims) a.rows.now) (simp length-drop (omega (arith, c.requires.1))))

pub read_words-requires : goal.read_words-requires
read_words-requires c = rw (c.places.ensures.0, c.places.ensures.1, part (goal.at.read_words-requires c).Start) c.requires.0

pub returns : goal.returns
returns c =
    let a = c.args in
    let e = c.read_words.ensures in
    let read = rw (c.places.ensures.0, c.places.ensures.1, part (goal.at.returns c).Start) at e in
    rw (c.places.ensures.0, c.places.ensures.1) (row_read a.s.now a.dims a.at a.i a.rows.now _ c.requires.1 read)
