-- Our lists of all rows as they grow, set by set: those for the sets so far.
use mathlib.Core.Path.{◌≡◌, refl, sym, subst, ◌∙◌}
use mathlib.Core.List.Memᴰ
use mathlib.Core.List.{List, [], ◌++◌, map}
use Prim.Native.Nat.{ℕ, ◌^◌, ◌≤◌, ◌<◌}
use native.Mathlib.Omega.{arith}
use lib.ListN.{length, length-map, get_or-map}
use lib.Seq.{ext_get_or}
use Rattle.lists.specs.Lists.{◌∈◌}
use Rattle.lattice.proofs.Sets.{sets-in}
use Rattle.cube.specs.Codes.{plain}
use Rattle.cube.specs.Condensed.{proper, listed}
use Rattle.cube.proofs.Codes.{plain_laws}
use Rattle.cube.proofs.Nodes.{proper_in}
use Rattle.cube.proofs.Promises.{at-most_70}
use Rattle.rows_lists.specs.Lists.{lists_of, Empty, Fit, our_lists}
use Rattle.rows_lists.proofs.Lists.{lists_length, lists_at}
use Rattle.rows_condense.proofs.Growing.{listed_to, listed_among, listed-few}

-- our lists of rows with codes xs, of the sets l alone
unfoldable pub partly : ℕ → List (List ℕ) → List ℕ → List (List ℕ)
partly d xs l = map (listed_to (plain d) xs l) xs

module _ (d : ℕ) (xs : List (List ℕ)) where
  -- no list has a set yet
  pub partly_none : {n : ℕ} (ls : List ℕ) → length xs ≡ n → Empty n ls → lists_of n ls ≡ partly d xs []
  unfolding partly listed_to
  partly_none {n} ls e f = ext_get_or [] (lists_of n ls) (map (listed_to (plain d) xs []) xs)
      (lists_length n ls ∙ sym (length-map xs (listed_to (plain d) xs []) ∙ e))
      (λ i l. let h : i < n = rw lists_length at l in
      lists_at n i ls h ∙ rw (f i h) (sym (get_or-map (listed_to (plain d) xs []) xs i [])))

  pub partly_all : partly d xs (proper (plain d)) ≡ our_lists d xs
  unfolding partly listed_to our_lists listed
  partly_all = refl

  -- the sets so far are the first of those below the full one
  module _ (h : d ≤ 8) (l m : List ℕ) (e : l ++ m ≡ proper (plain d)) where
    pub partly_fit : Fit (partly d xs l)
    unfolding partly
    partly_fit k i =
        let r = Memᴰ.of_map (listed_to (plain d) xs l) xs i in
        rw (← r.2) (omega (arith, listed-few (plain d) (plain_laws d) xs l r.0 m e, at-most_70 d xs r.0 h))

    pub below : (x : List ℕ) (t : ℕ) → t ∈ listed_to (plain d) xs l x → t < 2 ^ d
    below x t i =
        let p = subst (λ (k : List ℕ). t ∈ k) e (Memᴰ.append_left m (listed_among (plain d) (plain_laws d) xs l x i).0) in
        sets-in d (proper_in (plain d) (plain_laws d) p).0
