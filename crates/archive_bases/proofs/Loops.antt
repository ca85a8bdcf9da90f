-- How a loop writes or compares our base entries as bytes: those from row i on are left.
use mathlib.Core.Path.{◌≡◌, ap, subst}
use mathlib.Core.List.{List, [], ◌++◌, flat_map}
use Prim.Native.Nat.{ℕ, ◌+◌, ◌-◌, ◌≤◌, ◌<◌}
use lib.ListN.{length, drop}
use borrow.Rule.Slice.PartMut.{mid_of, put_mid}
use Rattle.fields.specs.Written.{Wrote}
use Rattle.stops.specs.declared.Stop.{Stop}
use Rattle.std.specs.Prelude.{Err, Ok}
use Rattle.rows.specs.Rows.{rows_of}
use Rattle.archive_entries.specs.Layout.{base_bytes}
use Rattle.archive_cells.specs.Writing.{Writing}
use Rattle.archive_cells.specs.WritingLaws.{writing_more, writing_room, writing_done}
use Rattle.archive_compare.specs.Matched.{Matched, Matching}
use Rattle.archive_compare.specs.MatchedLaws.{matching_more, matching_off, matching_done}
use Rattle.archive_bases.specs.Listed.{Listed, our_base, our_bases}
use Rattle.archive_bases.proofs.Bases.{bases-next, bases-none}

module _ {d n : ℕ} {ws ls : List ℕ} (rows : Listed d n ws ls) (i : ℕ) where
  -- the bytes of all entries, of those from a row on, and of that of row i
  abbrev all : List ℕ
  all = flat_map base_bytes (our_bases d (rows_of d n ws))

  abbrev from : ℕ → List ℕ
  from k = flat_map base_bytes (drop k (our_bases d (rows_of d n ws)))

  abbrev one : List ℕ
  one = base_bytes (our_base d (rows_of d n ws) i)

  left : i < n → from i ≡ one ++ from (i + 1)
  unfolding flat_map
  left h = ap (flat_map base_bytes) (bases-next rows i h)

  none : n ≤ i → from i ≡ []
  unfolding flat_map
  none h = ap (flat_map base_bytes) (bases-none rows i h)

  module _ {l m : List ℕ} {at : ℕ} (w : Writing all (from i) l m at) where
    next : i < n → Writing all (one ++ from (i + 1)) l m at
    next h = subst (λ (x : List ℕ). Writing all x l m at) (left h) w

    pub write_room : i < n → length all ≤ length l → at + length one ≤ length m
    write_room h = writing_room one (from (i + 1)) (next h)

    pub write_more : {r : List ℕ} {k : ℕ} → i < n → Wrote one (mid_of at (length m - at) m) r k → Writing all (from (i + 1)) l (put_mid at (length m - at) m r) (at + k)
    write_more h = writing_more one (from (i + 1)) (next h)

    pub write_done : n ≤ i → Wrote all l m at
    write_done h = writing_done (subst (λ (x : List ℕ). Writing all x l m at) (none h) w)

  module _ {s : List ℕ} {start at : ℕ} (w : Matching all (from i) s start at) where
    following : i < n → Matching all (one ++ from (i + 1)) s start at
    following h = subst (λ (x : List ℕ). Matching all x s start at) (left h) w

    pub match_more : {k : ℕ} → i < n → Matched s at one (Ok k) → Matching all (from (i + 1)) s start k
    match_more h = matching_more one (from (i + 1)) (following h)

    pub match_off : {e : Stop} → i < n → Matched s at one (Err e) → Matched s start all (Err e)
    match_off h = matching_off one (from (i + 1)) (following h)

    pub match_done : n ≤ i → Matched s start all (Ok at)
    match_done h = matching_done (subst (λ (x : List ℕ). Matching all x s start at) (none h) w)
