-- `fields_sums::put_sum` meets its contract. Two words, the low one first.
use mathlib.Core.Path.{ap, ◌∙◌}
use mir.Facts.{to_z-of_z}
use Rattle.fields_sums.specs.Twos.{low_of, high_of}
use Rattle.fields.specs.WrittenLaws.{wrote_then}
use Rattle.fields_sums.proofs.put_sum.Goals as goal

pub returns : goal.returns
returns c =
    let e = to_z-of_z c.ranges.sum in
    rw (c.low_of.ensures ∙ ap low_of e, c.high_of.ensures ∙ ap high_of e) at
    (wrote_then c.put_word-at.ensures c.put_word.ensures)
