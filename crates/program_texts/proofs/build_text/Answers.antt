-- `program_texts::build_text` meets its contract: what the builder prints is too long's line, the archive's bytes, or a stop's line over an output that the call left alone.
use mathlib.Core.Path.{sym}
use Rattle.archive_cells.specs.WritingLaws.{wrote_as}
use Rattle.program_texts.proofs.Printed.{builder_long, builder-refused, builder-wrote}
use Rattle.program_texts.proofs.build_text.Goals as goal

pub returns-then-input-gt-LONGEST : goal.returns-then-input-gt-LONGEST
returns-then-input-gt-LONGEST c =
    let s = c.args.input.now in
    wrote_as (sym (builder_long s c.if-input-gt-LONGEST.true)) c.put_too_long.ensures

pub returns-in-Ok : goal.returns-in-Ok
returns-in-Ok c =
    builder-wrote c.args.input.now c.if-input-gt-LONGEST.false c.requires c.build.ensures c.in-Ok.is

pub returns-in-Err : goal.returns-in-Err
returns-in-Err c =
    let r = builder-refused c.args.input.now c.if-input-gt-LONGEST.false c.requires c.build.ensures c.in-Err.is in
    wrote_as (sym r.0) (rw r.1 at c.put_refused.ensures)
