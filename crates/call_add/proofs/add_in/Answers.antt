-- `call_add::add_in` meets its contract: the reader's stops, or the record added to an archive that it accepts.
use mathlib.Core.Path.{sym}
use Rattle.call_answers.proofs.Answers.{stopped_on}
use Rattle.call_add.proofs.Adding.{adds-refused}
use Rattle.call_add.proofs.add_in.Goals as goal

pub returns-in_err-shape : goal.returns-in_err-shape
returns-in_err-shape c =
    let a = c.args in
    stopped_on a.out.now _ c.from_residual.ensures.1 (adds-refused a.archive.now a.codes.now a.reading (sym c.in_err-shape.ensures.value))
