-- `text_lines::put_code` meets its contract: a star for ALL, the number of any other code, and a space.
use Rattle.fields.specs.WrittenLaws.{wrote_then}
use Rattle.text_lines.proofs.Texts.{code_text-all, code_text-code}
use Rattle.text_lines.proofs.put_code.Goals as goal

pub returns-then-c-eq65535 : goal.returns-then-c-eq65535
returns-then-c-eq65535 c = rw (code_text-all c.if-c-eq65535.true) (wrote_then c.put_character-done.ensures c.put_character.ensures)

pub returns : goal.returns
returns c = rw (code_text-code c.if-c-eq65535.false) c.put_number.ensures
