-- An accepted archive, and a flat list that holds its base rows.
use mathlib.Core.Path.{◌≡◌}
use mathlib.Core.List.{List, []}
use Prim.Native.Nat.{ℕ}
use lib.ListN.{length}
use Rattle.fields.specs.Words.{words_at}
use Rattle.fields_walk.specs.Parsed.{got}
use Rattle.fields_walk.specs.Limits.{Bytes}
use Rattle.rows.specs.Rows.{rows_of}
use Rattle.rows_ready.specs.Ready.{Ready}
use Rattle.archive_entries.specs.Layout.{Held}
use Rattle.archive_entries.specs.Reading.{read_archive, rows_in}

pub record Opened (s : List ℕ) (d n m : ℕ) (ws : List ℕ) : Type 0 where
  pub are : Bytes s
  pub held : Held
  pub read : read_archive s ≡ got held []
  pub sizes : held.sizes ≡ words_at s d 8
  pub dims : length held.sizes ≡ d
  pub bases : length held.bases ≡ n
  pub cells : length held.cells ≡ m
  pub ready : Ready d n ws
  pub rows : rows_of d n ws ≡ rows_in held
