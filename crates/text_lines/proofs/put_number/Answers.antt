-- `text_lines::put_number` meets its contract: a number, then the character behind it.
use Rattle.fields.specs.WrittenLaws.{wrote_then}
use Rattle.text_lines.proofs.put_number.Goals as goal

pub returns : goal.returns
returns c = rw (← c.from.ensures) (wrote_then c.put_decimal-done.ensures c.put_character.ensures)
