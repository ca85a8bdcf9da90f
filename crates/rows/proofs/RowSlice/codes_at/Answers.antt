-- `rows::RowSlice::codes_at` meets its contract: the codes stand first of the row's words.
use mathlib.Core.Path.{sym, ap, ◌∙◌}
use native.Mathlib.Omega.{arith}
use lib.ListN.{take}
use lib.Seq.{length-take-le}
use Rattle.rows.proofs.Flat.{row_words}
use Rattle.rows.proofs.RowSlice.codes_at.Goals as goal

pub slice_bounds-result-end : goal.slice_bounds-result-end
slice_bounds-result-end c =
    let s = c.args.self.now in
    let e = c.words_at-words.ensures.1 in
    sym (length-take-le s.dims c.words_at-words.result.now (omega (arith, e)))

pub returns : goal.returns
returns c =
    let s = c.args.self.now in
    let w = c.words_at-words.ensures in
    let e = w.1 in (
      ap (take s.dims) w.0 ∙ row_words s.dims s.n c.args.row s.words.now c.requires,
      length-take-le s.dims c.words_at-words.result.now (omega (arith, e)),
    )
