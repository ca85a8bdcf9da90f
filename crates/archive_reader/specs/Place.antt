-- A reader as a value.
--
--   reader_at s at     the reader of a slice at a place
use Rattle.std.specs.Prelude.{List, ℕ}
use Rattle.std.specs.Borrow.{Bor}
use Rattle.archive_reader.specs.declared.Reader.{Reader}

abbrev pub reader_at : Bor (List ℕ) → ℕ → Reader
reader_at s at = record { src = s; at = at }
