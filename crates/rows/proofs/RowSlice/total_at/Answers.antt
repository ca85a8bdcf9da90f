-- `rows::RowSlice::total_at` meets its contract: behind the codes of a row stand the words of its sum and its count.
use mathlib.Core.Path.{ap, ap₂, ◌∙◌}
use mathlib.Core.List.{List}
use Prim.Native.Nat.{ℕ, ◌+◌}
use lib.IntN.{ℤ}
use lib.ListN.{get_or}
use mir.Syntax.{w64}
use mir.Facts.{to_z-of_z}
use borrow.Author.Rules.{sfits_of}
use Rattle.fields_sums.specs.Twos.{sum_of}
use Rattle.cube.specs.declared.Total.{Total}
use Rattle.rows.proofs.Flat.{total-words}
use Rattle.rows.proofs.RowSlice.total_at.Goals as goal

abbrev total : ℤ → ℕ → Total
total z n = record { sum = z; count = n }

pub returns : goal.returns
returns c =
    let r = c.args.self.now in
    let w = c.words_at-words.ensures.0 in
    let s = to_z-of_z {w = w64} (sfits_of c.sum_of-sum.type_inv) ∙ c.sum_of-sum.ensures ∙ ap (λ (m : List ℕ). sum_of (get_or m r.dims 0) (get_or m (r.dims + 1) 0)) w in
    let k = ap (λ (m : List ℕ). get_or m (r.dims + 2) 0) w in
    ap₂ total s k ∙ total-words r.dims r.n c.args.row r.words.now c.requires
