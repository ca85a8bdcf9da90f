-- `rows_alone::put_words` meets its contract: the words of the set are copied, and those of the other sets stand elsewhere.
use native.Mathlib.Omega.{arith}
use Rattle.rows_alone.proofs.Words.{words_stored}
use Rattle.rows_alone.proofs.put_words.Goals as goal

pub returns : goal.returns
returns c = let p = c.requires in rw c.copy_from_slice.ensures.after (words_stored c.args.words.now c.args.alone.now c.args.set _ p.1 p.2 p.0 (omega arith))
