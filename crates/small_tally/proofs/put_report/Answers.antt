-- `small_tally::put_report` meets its contract: one line after the other.
use Rattle.fields.specs.WrittenLaws.{wrote_then}
use Rattle.small_lines.proofs.Texts.{report_is}
use Rattle.small_tally.proofs.put_report.Goals as goal

pub returns : goal.returns
returns c = rw report_is (wrote_then (wrote_then c.put_line-at.ensures c.put_line-at-2.ensures) c.put_line.ensures)
