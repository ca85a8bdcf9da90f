-- What a call's outcome is for an archive that is refused, and for one that is accepted.
use mathlib.Core.Path.{◌≡◌, sym, ap}
use mathlib.Core.Bool.{true, false, false≢true}
use mathlib.Core.List.{List}
use Prim.Native.Nat.{ℕ, ◌^◌, ◌≤◌, ◌<◌}
use lib.ListN.{length}
use borrow.Author.Tests.{lt-ltb, le-ltb}
use Rattle.std.specs.Prelude.{Ok, Err}
use Rattle.fields_walk.specs.Parsed.{Parsed, stop, got}
use Rattle.cube.specs.declared.Total.{Total}
use Rattle.cube.specs.Measure.{Row}
use Rattle.rows.specs.Rows.{rows_of}
use Rattle.archive_entries.specs.Layout.{Held}
use Rattle.archive_entries.specs.Reading.{read_archive, archive_answer}
use Rattle.archive_entries.specs.declared.Shape.{Shape}
use Rattle.call_cuboids.specs.Cuboids.{cuboid_bytes, expansion_bytes}
use Rattle.call_answers.specs.Answers.{stop as stopped, bytes}
use Rattle.call_answers.specs.Calls.{counted, checks, lists_cuboid, expands, looks_up}
use Rattle.call_answers.proofs.Opened.{Opened}

-- ---- refused

module _ (s : List ℕ) {k : ℕ} (e : archive_answer (read_archive s) ≡ Err k) where
  pub refused : read_archive s ≡ stop k
  refused = go (read_archive s) e
    where
      go : (p : Parsed Held) → archive_answer p ≡ Err k → p ≡ stop k
      go (stop n) f = let z : n ≡ k = cc in ap stop z
      go (got a rest) f = let z : false ≡ true = cc in absurd (false≢true z)

  pub check-refused : Err k ≡ checks s
  unfolding checks
  check-refused = rw refused

  pub list-refused : (set : ℕ) → lists_cuboid s set ≡ stopped k
  unfolding lists_cuboid
  list-refused set = rw refused

  pub expand-refused : expands s ≡ stopped k
  unfolding expands
  expand-refused = rw refused

  pub look_refused : (q : List ℕ) → Err k ≡ looks_up s q
  unfolding looks_up
  look_refused q = rw refused

-- ---- accepted

-- a check needs the answer alone
pub check_passed : (s : List ℕ) {e : Shape} → archive_answer (read_archive s) ≡ Ok e → Ok (record { bases = e.bases; cells = e.cells }) ≡ checks s
unfolding checks
check_passed s {e} h = go (read_archive s) h
  where
    go : (p : Parsed Held) → archive_answer p ≡ Ok e → Ok (record { bases = e.bases; cells = e.cells }) ≡ counted p
    go (stop k) f = let z : false ≡ true = cc in absurd (false≢true z)
    go (got a rest) f =
        let g : record { dims = length a.sizes; bases = length a.bases; cells = length a.cells } ≡ e = cc in
        sym (ap (λ (x : Shape). Ok (record { bases = x.bases; cells = x.cells })) g)

module _ {s : List ℕ} {d n m : ℕ} {ws : List ℕ} (o : Opened s d n m ws) where
  pub list_stopped : {set : ℕ} → 2 ^ d ≤ set → lists_cuboid s set ≡ stopped 14
  unfolding lists_cuboid
  list_stopped {set} h = rw (o.read, o.dims, le-ltb set (2 ^ d) h)

  pub list-bytes : {set : ℕ} → set < 2 ^ d → lists_cuboid s set ≡ bytes (cuboid_bytes d (rows_of d n ws) set)
  unfolding lists_cuboid
  list-bytes {set} h = rw (o.read, o.dims, lt-ltb set (2 ^ d) h) (ap (λ (rows : List (Row Total)). bytes (cuboid_bytes d rows set)) (sym o.rows))

  pub expand-bytes : expands s ≡ bytes (expansion_bytes d (rows_of d n ws))
  unfolding expands
  expand-bytes = rw (o.read, o.dims) (ap (λ (rows : List (Row Total)). bytes (expansion_bytes d rows)) (sym o.rows))
