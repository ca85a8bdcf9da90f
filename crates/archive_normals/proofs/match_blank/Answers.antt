-- `archive_normals::match_blank` meets its contract: there are rows, and nothing is compared, or the cell of an empty table is.
use mathlib.Core.Path.{sym}
use mathlib.Core.List.{[]}
use Rattle.archive_compare.specs.MatchedLaws.{matching_none, matching_done, matched_as}
use Rattle.archive_normals.proofs.Sections.{blank_none, blank-one}
use Rattle.archive_normals.proofs.match_blank.Goals as goal

pub returns-then-n-ne0 : goal.returns-then-n-ne0
returns-then-n-ne0 c = let a = c.args in matched_as (sym (blank_none a.dims a.n c.if-n-ne0.true)) (matching_done (matching_none [] a.s.now a.at c.requires.1))

pub returns : goal.returns
returns c = let a = c.args in matched_as (blank-one a.dims a.n c.if-n-ne0.false) c.match_blank.ensures
