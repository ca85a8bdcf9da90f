-- `fields::put_word` meets its contract: the library's bytes of a word are those of `word_bytes`.
use mathlib.Core.Path.{◌∙◌}
use Rattle.fields.specs.WrittenLaws.{wrote_over}
use Rattle.fields.proofs.Stands.{le-bytes}
use Rattle.fields.proofs.put_word.Goals as goal

pub returns : goal.returns
returns c = wrote_over c.requires (c.copy_from_slice.ensures.after ∙ c.to_le_bytes.ensures ∙ le-bytes c.args.w)
