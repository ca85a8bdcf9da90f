-- `program_texts::put_refused` meets its contract: three parts one straight after the other. A stop's number has at most ten digits.
use mathlib.Core.Path.{ap, ◌∙◌}
use Prim.Native.Nat.{◌≤◌}
use native.Mathlib.Omega.{arith}
use borrow.Author.Rules.{rules}
use lib.ListN.{length}
use Rattle.stops.specs.Numbers.{number}
use Rattle.fields.specs.WrittenLaws.{wrote_then}
use Rattle.archive_cells.specs.WritingLaws.{wrote_as}
use Rattle.text_decimals.specs.Decimals.{decimal}
use Rattle.text_decimals.proofs.Digits.{word_digits}
use Rattle.program_texts.proofs.Printed.{refused_is}
use Rattle.program_texts.proofs.put_refused.Goals as goal
use Rattle.program_texts.proofs.put_refused.Goals.{After-from}

few : (c : After-from) → length (decimal c.from.result) ≤ 10
few c = word_digits c.from.result (omega (arith, c.from.ensures, c.number.type_inv))

pub put_decimal-done-requires : goal.put_decimal-done-requires
put_decimal-done-requires c = search (rules, few (goal.at.put_decimal-done-requires c).After-from)

pub overflow_add-done : goal.overflow_add-done
overflow_add-done c = search (rules, few (goal.at.overflow_add-done c).After-from)

pub slice_bounds-put_character-count : goal.slice_bounds-put_character-count
slice_bounds-put_character-count c = search (rules, few (goal.at.slice_bounds-put_character-count c).After-from)

pub slice_bounds-put_character-start : goal.slice_bounds-put_character-start
slice_bounds-put_character-start c = search (rules, few (goal.at.slice_bounds-put_character-start c).After-from)

pub put_character-requires : goal.put_character-requires
put_character-requires c = search (rules, few (goal.at.put_character-requires c).After-from)

pub overflow_add-result : goal.overflow_add-result
overflow_add-result c = search (rules, few (goal.at.overflow_add-result c).After-from)

pub returns : goal.returns
returns c =
    rw (refused_is (number c.args.stop))
    (wrote_then (wrote_then c.put_bytes-done.ensures (wrote_as (ap decimal (c.from.ensures ∙ c.number.ensures)) c.put_decimal-done.ensures)) c.put_character.ensures)
