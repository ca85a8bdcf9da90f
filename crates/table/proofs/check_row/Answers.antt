-- `table::check_row` meets its contract: the codes, then four bytes of any value.
use mathlib.Core.List.{List}
use Prim.Native.Nat.{ℕ}
use lib.ListN.{drop}
use Rattle.fields_sums.specs.Twos.{reading_at}
use Rattle.fields_walk.specs.Parsed.{Parsed, got, and_then}
use Rattle.fields_walk.specs.Fields.{reading}
use Rattle.stops.proofs.Handed.{handed}
use Rattle.fields_walk.proofs.Steps.{walked_as, walked-map, then_on, then_off}
use Rattle.cube.specs.declared.Total.{Total}
use Rattle.cube.specs.Measure.{Row}
use Rattle.table.specs.Reading.{row}
use Rattle.table.proofs.Accepted.{read}
use Rattle.table.proofs.check_row.Goals as goal

-- what is read behind the codes
abbrev coded : List ℕ → List ℕ → Parsed (Row Total)
coded x rest = and_then (reading rest) (λ z rest'. got (read x z) rest')

pub returns-in_err-next : goal.returns-in_err-next
unfolding row
returns-in_err-next c = rw (handed c.from_residual.result c.from_residual.ensures.1) (record { says = then_off coded c.in_err-next.ensures.says })

pub returns : goal.returns
unfolding row reading
returns c =
    let g = c.in_ok-next.ensures.says in
    walked_as (then_on coded g.1) (walked-map (λ z. read g.0 z) (walked-map (λ u. reading_at (drop c.in_ok-next.next c.args.s.now) 0) c.check_room.ensures))
