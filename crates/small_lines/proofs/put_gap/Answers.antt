-- `small_lines::put_gap` meets its contract: a space, then the number.
use Rattle.fields.specs.WrittenLaws.{wrote_then}
use Rattle.small_lines.proofs.Texts.{gap_is}
use Rattle.small_lines.proofs.put_gap.Goals as goal

pub returns : goal.returns
returns c = rw (gap_is c.args.n) (wrote_then c.put_character-at.ensures c.put_decimal.ensures)
