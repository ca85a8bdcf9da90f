use Rattle.fields.specs.Words.{words_bytes}
use Rattle.archive_cells.specs.Writing.{Writing}
use Rattle.archive_groups.specs.Masks.{masked}
use Rattle.archive_groups.proofs.Shown.{shown_from}
use Rattle.archive_groups.proofs.put_shown.Given as goal

abbrev pub invariant-loop-d : goal.invariant-loop-d
invariant-loop-d l = Writing (words_bytes (masked l.missing l.mine)) (shown_from l.missing l.mine l.d) l.initial.out l.out l.at
