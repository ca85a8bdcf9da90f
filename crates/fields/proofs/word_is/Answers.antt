-- `fields::word_is` meets its contract: the bytes make the word or do not.
use mathlib.Core.Path.{sym}
use Rattle.fields.proofs.Stands.{starts-word}
use Rattle.fields.proofs.word_is.Goals as goal

pub returns : goal.returns
returns c =
    let a = c.args in
    rw c.word_at.ensures (sym (starts-word a.s.now a.at a.w c.requires (λ k. (c.type_inv.s k).fits) c.ranges.w.fits))
