-- `fields::put_bytes` meets its contract: the bytes are copied over the front.
use borrow.Author.Rules.{rules}
use Rattle.fields.specs.WrittenLaws.{wrote_over}
use Rattle.fields.proofs.put_bytes.Goals as goal

pub returns : goal.returns
returns c = search (rules, wrote_over)
