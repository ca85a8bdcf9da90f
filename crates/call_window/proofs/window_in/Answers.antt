-- `call_window::window_in` meets its contract: the reader's stops, or the answer of an archive that it accepts.
use mathlib.Core.Path.{sym}
use Rattle.stops.proofs.Handed.{handed}
use Rattle.call_window.proofs.Windows.{window-refused}
use Rattle.call_window.proofs.window_in.Goals as goal

pub returns-in_err-shape : goal.returns-in_err-shape
returns-in_err-shape c =
    let a = c.args in
    rw (handed c.from_residual.result c.from_residual.ensures.1) (window-refused a.archive.now (sym c.in_err-shape.ensures.value) a.dimension a.code a.question.now)
