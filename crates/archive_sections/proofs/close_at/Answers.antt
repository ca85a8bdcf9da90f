-- `archive_sections::close_at` meets its contract: behind the last byte there is no check word.
use Rattle.archive_sections.proofs.Ends.{close_past}
use Rattle.archive_sections.proofs.close_at.Goals as goal

pub returns-then-s-at : goal.returns-then-s-at
returns-then-s-at c = let a = c.args in record { says = close_past a.s.now a.at c.if-s-at.true }
