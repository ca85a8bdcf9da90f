-- `call_search::entry_before` meets its contract: the entry's cell is read, and compared.
use mathlib.Core.Path.{sym, ap, ◌∙◌}
use mathlib.Core.List.{List, [], ◌∷◌}
use Prim.Native.Nat.{ℕ}
use lib.ListN.{length}
use lib.Seq.{length-take-le}
use Rattle.lists.specs.Order.{earlier}
use Rattle.cube.specs.Codes.{keys}
use Rattle.archive_entries.proofs.Front.{front_is, front_length, front-room}
use Rattle.call_search.proofs.entry_before.Goals as goal

abbrev zeros : List ℕ
zeros = 0 ∷ 0 ∷ 0 ∷ 0 ∷ 0 ∷ 0 ∷ 0 ∷ 0 ∷ []

pub slice_bounds-read_words-end : goal.slice_bounds-read_words-end
slice_bounds-read_words-end c = sym (length-take-le (length c.args.cell.now) zeros c.requires.0)

pub read_words-requires : goal.read_words-requires
read_words-requires c = rw (length-take-le (length c.args.cell.now) zeros c.requires.0) c.requires.1

pub slice_bounds-mine-end-2 : goal.slice_bounds-mine-end-2
slice_bounds-mine-end-2 c = front-room _ zeros _ _ c.requires.0 c.read_words.ensures

pub slice_bounds-cell_before-end : goal.slice_bounds-cell_before-end
slice_bounds-cell_before-end c = front_length _ zeros _ _ c.requires.0 c.read_words.ensures

pub cell_before-requires : goal.cell_before-requires
cell_before-requires c = (sym (front_length _ zeros _ _ c.requires.0 c.read_words.ensures), c.requires.0)

pub returns : goal.returns
returns c =
    c.cell_before.ensures ∙ ap (λ (x : List ℕ). earlier (keys x) (keys c.args.cell.now)) (front_is _ zeros _ _ c.requires.0 c.read_words.ensures)
