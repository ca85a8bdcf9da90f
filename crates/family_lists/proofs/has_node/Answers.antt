-- `family_lists::has_node` meets its contract: the bit of the node in its word.
use mathlib.Core.Path.{sym}
use Rattle.family_lists.proofs.Listing.{node-bit}
use Rattle.family_lists.proofs.has_node.Goals as goal

pub returns : goal.returns
returns c = let a = c.args in sym (node-bit a.listed.now a.row a.node)
