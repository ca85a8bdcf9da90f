use mathlib.Core.Path.{◌≡◌}
use mathlib.Core.List.{flat_map}
use Rattle.fields.specs.Words.{words, words_at}
use Rattle.archive_cells.specs.Writing.{Writing}
use Rattle.text_lines.proofs.put_words.Given as goal

abbrev pub invariant-loop-bytes : goal.invariant-loop-bytes
invariant-loop-bytes g l =
    (l.bytes-iterator.size ≡ 4) × Writing (flat_map g.T.Text.text (words_at l.s l.n l.at)) (flat_map g.T.Text.text (words l.bytes-iterator.rest.now)) l.initial.out l.out l.done
