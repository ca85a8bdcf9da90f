-- `program_texts::list_text` meets its contract: what the lister prints is too long's line, a stop's line, or the text of an accepted archive, for which there is room.
use mathlib.Core.Path.{sym}
use native.Mathlib.Omega.{arith}
use Rattle.fields_walk.proofs.Limits.{bytes_of}
use Rattle.archive_cells.specs.WritingLaws.{wrote_as}
use Rattle.text_listing.proofs.Places.{listing-few}
use Rattle.program_texts.proofs.Printed.{lister_long, lister-refused, lister-listing, accepted}
use Rattle.program_texts.proofs.list_text.Goals as goal

pub returns-then-input-gt-LONGEST : goal.returns-then-input-gt-LONGEST
returns-then-input-gt-LONGEST c =
    let s = c.args.input.now in
    wrote_as (sym (lister_long s c.if-input-gt-LONGEST.true)) c.put_too_long.ensures

pub put_listing-requires : goal.put_listing-requires
put_listing-requires c =
    let s = c.args.input.now in
    let x = accepted s (sym c.in-Ok.ensures) in
    let b = bytes_of s (λ i. omega (arith, c.type_inv.input i)) in
    record { by_index = x; s_in_bounds = omega (arith, listing-few b x.1, c.if-input-gt-LONGEST.false, c.requires) }

pub returns-in-Ok : goal.returns-in-Ok
returns-in-Ok c =
    let s = c.args.input.now in
    let x = accepted s (sym c.in-Ok.ensures) in
    wrote_as (sym (lister-listing s c.if-input-gt-LONGEST.false x.1)) c.put_listing.ensures

pub returns-in-Err : goal.returns-in-Err
returns-in-Err c =
    let s = c.args.input.now in
    let e = sym c.in-Err.ensures in
    wrote_as (sym (lister-refused s c.if-input-gt-LONGEST.false e)) c.put_refused.ensures
