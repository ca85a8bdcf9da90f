-- `fields_walk::check_room` meets its contract: the bytes are there, or the input ends before the last of them.
use native.Mathlib.Omega.{arith}
use Rattle.fields_walk.proofs.Steps.{place_short, place-whole}
use Rattle.fields_walk.proofs.check_room.Goals as goal

pub returns-then-s-at : goal.returns-then-s-at
returns-then-s-at c = record { says = place_short c.args.s.now c.args.at c.args.width (omega arith) (omega arith) }

pub returns : goal.returns
returns c = record { says = place-whole c.args.s.now c.args.at c.args.width (omega arith) (omega arith) }
