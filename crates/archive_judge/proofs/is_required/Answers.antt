-- `archive_judge::is_required` meets its contract: buffers of its own are lent.
use native.Mathlib.Omega.{arith}
use Rattle.fields_walk.proofs.Limits.{bytes_of}
use Rattle.archive_judge.proofs.Judged.{read-ready}
use Rattle.archive_judge.proofs.is_required.Goals as goal

pub judge-requires : goal.judge-requires
judge-requires c = let p = c.requires in (p.0, omega (arith, (read-ready (bytes_of c.args.s.now (λ i. omega (arith, c.type_inv.s i))) p.0).few), p.1, p.2)
