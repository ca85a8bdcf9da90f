-- `call_keys::fit_bare` meets its contract: the sets stand in front of an array.
use mathlib.Core.Path.{sym, ap}
use mathlib.Core.List.{List}
use Prim.Native.Nat.{ℕ}
use Rattle.call_answers.specs.Answers.{bytes}
use Rattle.call_answers.proofs.Answers.{answered_as}
use Rattle.archive_cells.specs.ListBytes.{list_bytes}
use Rattle.call_keys.proofs.fit_bare.Goals as goal

pub returns : goal.returns
returns c = answered_as (ap (λ (l : List ℕ). bytes (list_bytes l)) (sym c.list_bare-n.ensures.0)) c.fit_list.ensures
