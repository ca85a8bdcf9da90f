-- `text_decimals::put_character` meets its contract. One store at place 0.
use Rattle.fields.specs.WrittenLaws.{wrote_none, wrote_one}
use borrow.Author.Rules.{rules}
use Rattle.text_decimals.proofs.put_character.Goals as goal

pub returns : goal.returns
returns c = wrote_one c.args.c (search rules) (wrote_none c.args.out.now)
