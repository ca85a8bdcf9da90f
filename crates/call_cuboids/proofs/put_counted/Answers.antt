-- `call_cuboids::put_counted` meets its contract: the count, and the words of the cells straight after it.
use mathlib.Core.Path.{◌≡◌, sym, ap, ◌∙◌}
use mathlib.Core.List.{List, ◌++◌, flat_map}
use Prim.Native.Nat.{ℕ, ◌*◌, ◌^◌}
use native.Mathlib.Omega.{arith}
use lib.ListN.{length, take, length-take, length-drop}
use lib.Seq.{length-take-le}
use Rattle.lists.proofs.Places.{below-take}
use Rattle.fields.specs.Words.{word_bytes, words_bytes}
use Rattle.fields.specs.WordsLaws.{length_words_bytes}
use Rattle.fields.specs.WrittenLaws.{wrote_then}
use Rattle.rows.specs.Rows.{width}
use Rattle.rows.proofs.Flat.{rows-length}
use Rattle.rows_ready.proofs.Ready.{rows-front}
use Rattle.archive_entries.specs.Layout.{cell_bytes}
use Rattle.archive_cells.specs.WritingLaws.{wrote_as}
use Rattle.archive_cells.proofs.Cells.{cells-words}
use Rattle.call_cuboids.proofs.put_counted.Goals as goal
use Rattle.call_cuboids.proofs.put_counted.Goals.{Start}

-- how many words the cells have, and how many bytes
size : (c : Start) → let a = c.args in length (take (a.n * width a.dims) a.cells.now) ≡ a.n * width a.dims
size c = length-take-le (c.args.n * width c.args.dims) c.args.cells.now c.requires.2

long : (c : Start) → let a = c.args in length (words_bytes (take (a.n * width a.dims) a.cells.now)) ≡ 4 * (a.n * width a.dims)
long c = length_words_bytes _ ∙ ap (λ (k : ℕ). 4 * k) (size c)

pub put_words-requires : goal.put_words-requires
put_words-requires c = simp (length-take, length-drop) (omega (arith, long (goal.at.put_words-requires c).Start, c.requires.3, c.put_word-at.ensures.count, c.put_word-at.ensures.same))

pub overflow_add-result : goal.overflow_add-result
overflow_add-result c = omega (arith, c.put_word-at.ensures.count, c.put_words.ensures.count, long (goal.at.overflow_add-result c).Start, c.requires.3)

pub returns : goal.returns
returns c =
    let a = c.args in
    let cells = take (a.n * width a.dims) a.cells.now in
    let words = cells-words a.dims a.n cells (sym (size (goal.at.returns c).Start)) (below-take (2 ^ 32) (a.n * width a.dims) a.cells.now (λ i. omega (arith, c.type_inv.cells i))) in
    let same = sym words ∙ ap (flat_map cell_bytes) (rows-front a.dims a.n a.cells.now) in
    rw (rows-length a.dims a.n a.cells.now) (wrote_as (ap (λ (l : List ℕ). word_bytes a.n ++ l) same) (wrote_then c.put_word-at.ensures c.put_words.ensures))
