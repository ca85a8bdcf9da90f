-- `rows_bits::is_empty` meets its contract: a word with the bits of all words is 0 where each of them is.
use mathlib.Core.Path.{◌≡◌}
use lib.Bits.{bit_or}
use borrow.Author.Rules.{rules}
use Rattle.std.specs.List.{fold}
use Rattle.rows_bits.proofs.Bits.{empty-fold}
use Rattle.rows_bits.proofs.is_empty.Goals as goal

pub returns : goal.returns
returns c =
    let e : c.fold.result ≡ fold bit_or 0 c.args.words.now = search rules in
    rw e (empty-fold c.args.words.now)
