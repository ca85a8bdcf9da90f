-- `call_ask::Accepted::rows` meets its contract: there are words for as many rows as were accepted.
use native.Mathlib.Omega.{arith}
use Rattle.call_ask.proofs.Opened.{opened_of, opened_small}
use Rattle.call_ask.proofs.Accepted.rows.Goals as goal

pub rows_in-requires : goal.rows_in-requires
rows_in-requires c =
    let a = c.args.self.now in
    let o = opened_of a in
    (omega (arith, o.ready.dims), omega (arith, opened_small o, a.accepts.room))
