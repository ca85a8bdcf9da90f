-- `rows_crowds::last_dimension` meets its contract: the place is the logarithm of the set's number.
use mathlib.Core.Path.{◌≡◌}
use native.Mathlib.Omega.{arith}
use Rattle.rows_crowds.specs.Crowds.{place}
use Rattle.rows_crowds.proofs.Shorter.{place_log, shorter-place}
use Rattle.rows_crowds.proofs.last_dimension.Goals as goal

pub returns : goal.returns
returns c =
    let s = c.args.set in
    let p = c.requires in
    let r = c.ilog2.ensures in
    let e : c.ilog2.result ≡ place s = place_log s p.0 p.1 c.ilog2.result r.power_le r.next_power_gt in
    (e, omega (arith, e, shorter-place s p.0 p.1 8 (omega (arith, p.1))))
