-- A number below 10 is its one digit; of another, the call writes all digits but the last.
use Rattle.fields.specs.WrittenLaws.{wrote_then}
use Rattle.text_decimals.proofs.Digits.{decimal-one, decimal-more}
use Rattle.text_decimals.proofs.+put_decimal.Goals as goal

pub put_character-requires : goal.put_character-requires
put_character-requires t c = rw (decimal-one _ c.if-n-lt10.true) at c.requires

pub returns-then-n-lt10 : goal.returns-then-n-lt10
returns-then-n-lt10 t c = rw (decimal-one _ c.if-n-lt10.true) c.put_character.ensures

pub returns : goal.returns
returns t c = rw (decimal-more _ c.if-n-lt10.false) (wrote_then c.put_decimal-at.ensures c.put_character-2.ensures)
