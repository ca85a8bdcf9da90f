-- What the code knows of an accepted archive.
--
--   Accepts s ws e   the words ws have the base rows of the archive s, of which e was read
--   accepts_prop     there is one proof of it at most
use Rattle.std.specs.Prelude.{◌≡◌, List, ℕ, ◌≤◌, length, Ok}
use Rattle.std.proofs.Props.{props}
use Rattle.fields_walk.specs.Parsed.{Parsed, stop, got}
use Rattle.archive_entries.specs.Layout.{Held}
use Rattle.archive_entries.specs.Reading.{read_archive, archive_answer, Stored}
use Rattle.archive_entries.specs.declared.Shape.{Shape}

pub record Accepts (s ws : List ℕ) (e : Shape) : Type 0 where
  pub told : archive_answer (read_archive s) ≡ Ok e
  pub room : 11264 ≤ length ws
  pub stored : Stored (read_archive s) ws

-- there is one proof at most that words have what was read
stored_prop : (p : Parsed Held) (ws : List ℕ) → IsProp (Stored p ws)
stored_prop (stop n) ws = Prim.hlevel props
stored_prop (got a rest) ws = Prim.hlevel props

pub accepts_prop : (s ws : List ℕ) (e : Shape) → IsProp (Accepts s ws e)
accepts_prop s ws e = let h = stored_prop (read_archive s) ws in Prim.hlevel props
