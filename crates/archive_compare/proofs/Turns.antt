-- Parts compared set by set, in a loop over the 256 sets in lattice order, of which those below a bound have a turn.
use mathlib.Core.Path.{◌≡◌, subst}
use mathlib.Core.List.{List, ◌++◌}
use Prim.Native.Nat.{ℕ, ◌+◌, ◌≤◌, ◌<◌}
use lib.ListN.{get_or}
use Rattle.lattice.specs.Sets.{sets}
use Rattle.std.specs.Prelude.{Err, Ok}
use Rattle.stops.specs.declared.Stop.{Stop}
use Rattle.archive_cells.proofs.Turns.{turns, turns_next, turns_past, turns_none}
use Rattle.archive_compare.specs.Matched.{Matching, Matched}
use Rattle.archive_compare.specs.MatchedLaws.{matching_more, matching_off, matching_done}

module _ (f : ℕ → List ℕ) (m : ℕ) where
  module _ {s k : ℕ} (h : k < 256) (e : s ≡ get_or (sets 8) k 0) where
    module _ {all b : List ℕ} {at₀ at : ℕ} (w : Matching all (turns f m k) b at₀ at) where
      pub match_skip : m ≤ s → Matching all (turns f m (k + 1)) b at₀ at
      match_skip p = subst (λ (x : List ℕ). Matching all x b at₀ at) (turns_past f m h e p) w

      following : s < m → Matching all (f s ++ turns f m (k + 1)) b at₀ at
      following p = subst (λ (x : List ℕ). Matching all x b at₀ at) (turns_next f m h e p) w

      pub match_more : {j : ℕ} → s < m → Matched b at (f s) (Ok j) → Matching all (turns f m (k + 1)) b at₀ j
      match_more p = matching_more (f s) (turns f m (k + 1)) (following p)

      pub match_off : {n : Stop} → s < m → Matched b at (f s) (Err n) → Matched b at₀ all (Err n)
      match_off p = matching_off (f s) (turns f m (k + 1)) (following p)

  pub match_done : {all b : List ℕ} {at₀ at k : ℕ} → Matching all (turns f m k) b at₀ at → 256 ≤ k → Matched b at₀ all (Ok at)
  match_done {all} {b} {at₀} {at} {k} w h = matching_done (subst (λ (x : List ℕ). Matching all x b at₀ at) (turns_none f m k h) w)
