use mathlib.Core.Path.{◌≡◌}
use mathlib.Core.Bool.{◌&&◌}
use Prim.Native.Nat.{◌+◌, ◌*◌}
use lib.ListN.{drop}
use Rattle.fields.specs.Words.{words_bytes}
use Rattle.fields.specs.Opening.{starts_with}
use Rattle.archive_groups.specs.Masks.{masked}
use Rattle.archive_groups.proofs.Shown.{shown_from}
use Rattle.archive_groups.proofs.shown_is.Given as goal

abbrev pub invariant-loop-d : goal.invariant-loop-d
invariant-loop-d l =
    (l.at ≡ l.start + 4 * l.d) × (starts_with (drop l.start l.s) (words_bytes (masked l.missing l.mine)) ≡ l.same && starts_with (drop l.at l.s) (shown_from l.missing l.mine l.d))
