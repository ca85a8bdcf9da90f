-- `call_fixes::fixes_in` meets its contract: the reader's stops, or the answer of an archive that it accepts.
use mathlib.Core.Path.{sym}
use Rattle.stops.proofs.Handed.{handed}
use Rattle.call_keys.proofs.Outcomes.{fixes-refused}
use Rattle.call_fixes.proofs.fixes_in.Goals as goal

pub fixes_read-requires : goal.fixes_read-requires
fixes_read-requires c = c.in_ok-shape.ensures.shares

pub returns-in_err-shape : goal.returns-in_err-shape
returns-in_err-shape c =
    let a = c.args in
    rw (handed c.from_residual.result c.from_residual.ensures.1) (fixes-refused a.s.now (sym c.in_err-shape.ensures.value) a.set a.dimension)
