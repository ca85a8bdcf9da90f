-- `call_answers::fitting` meets its contract: its test is the clause's.
use mathlib.Core.Path.{sym, ap}
use mathlib.Core.Bool.{Bool}
use borrow.Author.Tests.{le-leb, lt-leb}
use Rattle.std.specs.Prelude.{cond, Ok, Err}
use Rattle.stops.specs.declared.Stop.TheVariants.{Output}
use Rattle.call_answers.proofs.fitting.Goals as goal

pub returns-then-room-needed : goal.returns-then-room-needed
returns-then-room-needed c = let a = c.args in sym (ap (λ (b : Bool). cond b (Ok a.needed) (Err Output)) (lt-leb a.needed a.room c.if-room-needed.true))

pub returns : goal.returns
returns c = let a = c.args in sym (ap (λ (b : Bool). cond b (Ok a.needed) (Err Output)) (le-leb a.needed a.room c.if-room-needed.false))
