-- `small_tally::put_tallied` meets its contract: D, the tallies, and the end of the line.
use Rattle.fields.specs.WrittenLaws.{wrote_then}
use Rattle.small_lines.proofs.Texts.{line-is}
use Rattle.small_tally.proofs.put_tallied.Goals as goal

pub returns : goal.returns
returns c =
    rw (line-is c.args.dims c.tally_tables.new.tallies c.tally_tables.ensures) (wrote_then (wrote_then c.put_decimal-at.ensures c.put_tallies-at.ensures) c.put_character.ensures)
