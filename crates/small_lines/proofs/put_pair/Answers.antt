-- `small_lines::put_pair` meets its contract: the number, then the tally.
use Rattle.fields.specs.WrittenLaws.{wrote_then}
use Rattle.small_lines.proofs.Texts.{pair_is}
use Rattle.small_lines.proofs.put_pair.Goals as goal

pub returns : goal.returns
returns c = rw (pair_is c.args.n c.args.tally) (wrote_then c.put_gap-at.ensures c.put_gap.ensures)
