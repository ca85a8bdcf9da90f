-- `text_lines::put_cell` meets its contract: the row, then the end of the line.
use Rattle.fields.specs.WrittenLaws.{wrote_then}
use Rattle.archive_entries.specs.Places.{row_there}
use Rattle.text_lines.proofs.Texts.{cell_text_is}
use Rattle.text_lines.proofs.put_cell.Goals as goal

pub returns : goal.returns
returns c =
    let a = c.args in
    rw (cell_text_is (row_there a.s.now a.dims a.at)) (wrote_then c.put_row-done.ensures c.put_character.ensures)
