-- `rows::RowSlice::words_at` meets its contract: a row's places are within the flat list.
use mathlib.Core.Path.{◌≡◌, ap, ap₂, ◌∙◌}
use Prim.Native.Nat.{ℕ, ◌+◌, ◌*◌, ◌-◌, ◌≤◌}
use native.Mathlib.Omega.{arith}
use lib.ListN.{length, take, drop, length-drop}
use lib.Seq.{length-take-le}
use Rattle.rows.specs.Rows.{width}
use Rattle.rows.proofs.Rows.{row_within}
use Rattle.rows.proofs.RowSlice.words_at.Goals as goal
use Rattle.rows.proofs.RowSlice.words_at.Goals.{Start}

within : (c : goal.Start) → (let s = c.args.self.now in c.args.row * width s.dims + width s.dims ≤ s.n * width s.dims)
within c = row_within (width c.args.self.now.dims) c.args.self.now.n c.args.row c.requires

pub places-requires : goal.places-requires
places-requires c = omega (arith, within (goal.at.places-requires c).Start, c.args.self.now.whole, c.ranges)

pub offset_bounds-self-places : goal.offset_bounds-self-places
offset_bounds-self-places c = omega (arith, within (goal.at.offset_bounds-self-places c).Start, c.args.self.now.whole, c.places.ensures.0)

pub slice_bounds-result-end : goal.slice_bounds-result-end
slice_bounds-result-end c = omega (arith, within (goal.at.slice_bounds-result-end c).Start, c.args.self.now.whole, c.places.ensures.1)

pub returns : goal.returns
returns c =
    let s = c.args.self.now in
    let from = c.args.row * width s.dims in
    let rest = drop from s.words.now in
    let p = c.places.ensures in
    let size : c.places.result.end - c.places.result.start ≡ width s.dims = omega (arith, p.0, p.1) in
    let e = ap₂ (λ (k j : ℕ). take k (drop j s.words.now)) size p.0 in
    (e, ap length e ∙ length-take-le (width s.dims) rest (simp length-drop (omega (arith, within (goal.at.returns c).Start, s.whole))))
