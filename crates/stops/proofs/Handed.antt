-- What a `?` hands on is the stop that it was given.
use Rattle.std.specs.Prelude.{◌≡◌, Result, Ok, Err, IsErrAnd}
use Rattle.std.proofs.Common.{ap}
use Rattle.stops.specs.declared.Stop.{Stop}

pub handed : {A : Type 0} {e : Stop} (r : Result A Stop) → IsErrAnd r (λ y. y ≡ e) → r ≡ Err e
handed (Ok x) h = absurd h
handed (Err y) h = ap Err h
