-- A list cut into chunks of one length: the chunk at a place, and what is behind it.
use mathlib.Core.Path.{◌≡◌, sym, ap, ◌∙◌}
use mathlib.Core.List.{List, ◌++◌}
use Prim.Native.Nat.{ℕ, ◌+◌, ◌*◌, ◌<◌}
use native.Mathlib.Nat.{add-zero}
use native.Mathlib.Omega.{arith}
use lib.ListN.{length, get_or, take, drop}
use lib.Seq.{drop-drop, take_at, drop_at, get_or-take, get_or-drop}

module _ (w i : ℕ) (l x rest : List ℕ) (e : drop (i * w) l ≡ x ++ rest) (n : length x ≡ w) where
  pub chunk-is : x ≡ take w (drop (i * w) l)
  chunk-is = sym (ap (take w) e ∙ take_at x rest w n)

  pub chunk-behind : drop ((i + 1) * w) l ≡ rest
  chunk-behind =
      let k : (i + 1) * w ≡ i * w + w = omega arith in
      ap (λ (j : ℕ). drop j l) k ∙ sym (drop-drop w (i * w) l) ∙ ap (drop w) e ∙ drop_at x rest w n

  pub chunk-first : 0 < w → get_or x 0 0 ≡ get_or l (i * w) 0
  chunk-first h =
      ap (λ (m : List ℕ). get_or m 0 0) chunk-is
      ∙ get_or-take w (drop (i * w) l) 0 0 h ∙ get_or-drop (i * w) l 0 0 ∙ ap (λ (j : ℕ). get_or l j 0) (add-zero (i * w))
