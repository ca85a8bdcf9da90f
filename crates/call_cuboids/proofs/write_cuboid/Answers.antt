-- `call_cuboids::write_cuboid` meets its contract: the rows are grouped once, and the groups are written behind their count where there is room.
use mathlib.Core.Path.{◌≡◌, refl, sym, ap, ◌∙◌}
use Prim.Native.Nat.{ℕ, ◌+◌, ◌*◌}
use native.Mathlib.Omega.{arith}
use mathlib.Core.List.{List}
use lib.ListN.{length}
use Rattle.cube.specs.Measure.{sums as measure}
use Rattle.cube.specs.Codes.{plain}
use Rattle.cube.specs.Cube.{cells}
use Rattle.cube.specs.Table.{Table}
use Rattle.rows.specs.Rows.{rows_of}
use Rattle.rows.proofs.Flat.{rows-length}
use Rattle.archive_entries.specs.Layout.{section, cell_bytes}
use Rattle.archive_cells.specs.WritingLaws.{wrote_as}
use Rattle.call_cuboids.specs.Cuboids.{cuboid_bytes}
use Rattle.call_cuboids.proofs.Lengths.{cuboid-length}
use Rattle.call_cuboids.proofs.write_cuboid.Goals as goal

-- how long the cuboid is
long : (d n s k : ℕ) (ws cs : List ℕ) → Table d (rows_of d n ws) → rows_of d k cs ≡ cells (plain d) measure (rows_of d n ws) s
    → length (cuboid_bytes d (rows_of d n ws) s) ≡ 4 + k * (4 * d + 12)
long d n s k ws cs table e =
    let g : k ≡ length (cells (plain d) measure (rows_of d n ws) s) = sym (rows-length d k cs) ∙ ap length e in
    rw (← g) at (cuboid-length d (rows_of d n ws) s table)

pub returns-then-out-len : goal.returns-then-out-len
returns-then-out-len c =
    let r = c.args.rows.now in
    let e = long r.dims r.n c.args.set c.find_cells-count.result r.words.now _ c.requires.table c.find_cells-count.ensures.cells_after in
    record { count = sym e; fits = λ h. absurd (omega (arith, h, e, c.if-out-len.true)); short = λ h. refl }

pub returns : goal.returns
unfolding cuboid_bytes
returns c =
    let r = c.args.rows.now in
    let e = long r.dims r.n c.args.set c.find_cells-count.result r.words.now _ c.requires.table c.find_cells-count.ensures.cells_after in
    let w = wrote_as (ap (section cell_bytes) c.find_cells-count.ensures.cells_after) c.put_counted.ensures in
    record { count = w.count; fits = λ h. w.list; short = λ h. absurd (omega (arith, h, e, c.if-out-len.false)) }
