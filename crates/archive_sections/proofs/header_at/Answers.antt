-- `archive_sections::header_at` meets its contract: behind the last byte there is no opening.
use Rattle.archive_sections.proofs.Ends.{header_past}
use Rattle.archive_sections.proofs.header_at.Goals as goal

pub returns-then-s-at : goal.returns-then-s-at
returns-then-s-at c = let a = c.args in record { says = header_past a.s.now a.at c.if-s-at.true }
