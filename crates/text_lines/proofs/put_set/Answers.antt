-- `text_lines::put_set` meets its contract: a space, then the set's number.
use Rattle.fields.specs.WrittenLaws.{wrote_then}
use Rattle.text_lines.proofs.Texts.{set_text_is}
use Rattle.text_lines.proofs.put_set.Goals as goal

pub returns : goal.returns
returns c = rw (set_text_is c.args.set, ← c.from.ensures) (wrote_then c.put_character-done.ensures c.put_decimal.ensures)
