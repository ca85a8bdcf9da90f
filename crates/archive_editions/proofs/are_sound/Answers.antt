-- `archive_editions::are_sound` meets its contract: what the known field says decides.
use mathlib.Core.Path.{sym, ◌∙◌}
use mathlib.Core.List.{List}
use Prim.Native.Nat.{ℕ, ◌+◌, ◌^◌, ◌<◌}
use lib.Signed.{mag}
use Rattle.fields.specs.Words.{word_at}
use borrow.Author.Rules.{sfits_of}
use mir.Syntax.{w64}
use mir.Facts.{to_z-of_z}
use Rattle.fields_sums.specs.Twos.{reading_at}
use Rattle.fields_sums.specs.TwosLaws.{signed-fits}
use Rattle.archive_editions.proofs.are_sound.Goals as goal

fits : (s : List ℕ) (at : ℕ) → mag (reading_at s at) < 2 ^ 31
unfolding reading_at
fits s at = signed-fits 31 (word_at s at)

pub do_suit-requires-clause-readings : goal.do_suit-requires-clause-readings
do_suit-requires-clause-readings c = (
  rw (to_z-of_z {w = w64} (sfits_of c.reading_at.type_inv), c.reading_at.ensures) (fits c.args.s.now (c.args.at + 4)),
  rw (to_z-of_z {w = w64} (sfits_of c.reading_at-in-1.type_inv), c.reading_at-in-1.ensures) (fits c.args.s.now (c.args.at + 8)),
)

pub returns-in-1 : goal.returns-in-1
unfolding reading_at
returns-in-1 c =
    let v = rw (to_z-of_z {w = w64} (sfits_of c.reading_at.type_inv), to_z-of_z {w = w64} (sfits_of c.reading_at-in-1.type_inv), c.reading_at.ensures, c.reading_at-in-1.ensures) at c.do_suit.ensures in
    let k = sym c.word_at.ensures ∙ c.in-1.is in
    rw k v
