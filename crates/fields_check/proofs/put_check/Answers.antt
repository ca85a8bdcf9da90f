-- `fields_check::put_check` meets its contract. The check word is that of the front, and goes straight after it.
use Rattle.std.proofs.Common.{rules}
use Rattle.fields.specs.Words.{word_bytes}
use Rattle.fields.specs.WrittenLaws.{lent_at}
use Rattle.fields_check.proofs.put_check.Goals as goal

pub returns : goal.returns
returns c =
    let a = c.args in
    let check = c.check_word-check in
    (search rules, rw check.ensures at (lent_at a.at a.out.now (word_bytes check.result) _ c.put_word.ensures.list))
