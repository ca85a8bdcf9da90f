-- `archive_normals::put_blank` meets its contract: there are rows, and nothing is written, or the cell of an empty table is.
use mathlib.Core.Path.{sym}
use native.Mathlib.Omega.{arith}
use Rattle.fields.specs.WrittenLaws.{wrote_none}
use Rattle.archive_cells.specs.WritingLaws.{wrote_as}
use Rattle.archive_normals.proofs.Sections.{blank_long, blank_none, blank-one}
use Rattle.archive_normals.proofs.put_blank.Goals as goal

pub returns-then-n-ne0 : goal.returns-then-n-ne0
returns-then-n-ne0 c = let a = c.args in wrote_as (sym (blank_none a.dims a.n c.if-n-ne0.true)) (wrote_none a.out.now)

pub put_blank-requires : goal.put_blank-requires
put_blank-requires c =
    let a = c.args in
    let p = c.requires in
    (p.0, omega (arith, blank_long a.dims a.n c.if-n-ne0.false, p.1))

pub returns : goal.returns
returns c = let a = c.args in wrote_as (blank-one a.dims a.n c.if-n-ne0.false) c.put_blank.ensures
