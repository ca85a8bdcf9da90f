-- `archive_bases::match_base` meets its contract: the words of the row and its list are the bytes of the base entry that they make.
use Rattle.archive_compare.specs.MatchedLaws.{matched_as}
use native.Mathlib.Omega.{arith}
use Rattle.archive_bases.proofs.Bases.{base-words}
use Rattle.archive_bases.proofs.match_base.Goals as goal

pub returns : goal.returns
returns c d e = let a = c.args in matched_as (base-words d a.mine.now a.list.now e (λ i. omega (arith, c.type_inv.mine i))) c.match_entry.ensures
