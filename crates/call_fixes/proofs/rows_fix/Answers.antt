-- `call_fixes::rows_fix` meets its contract: it lends the front of an array for the index.
use lib.Seq.{length-take-le}
use Rattle.call_fixes.proofs.rows_fix.Goals as goal

pub neighbours_fix-requires : goal.neighbours_fix-requires
neighbours_fix-requires c = let p = c.requires in (length-take-le c.args.rows.now.n _ p.few, p.few, p.base.valid)
