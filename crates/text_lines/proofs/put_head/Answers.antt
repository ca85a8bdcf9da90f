-- `text_lines::put_head` meets its contract: three numbers one straight after the other.
use Rattle.fields.specs.WrittenLaws.{wrote_then}
use Rattle.text_lines.proofs.Texts.{head_text_is}
use Rattle.text_lines.proofs.put_head.Goals as goal

pub returns : goal.returns
returns c =
    let shape = c.args.shape in
    rw (head_text_is shape.dims shape.bases shape.cells)
    (wrote_then (wrote_then c.put_number-done.ensures c.put_number-done-2.ensures) c.put_number.ensures)
