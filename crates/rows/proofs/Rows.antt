-- Rows in a flat list: where the codes of a row stand, and how many there are.
use mathlib.Core.Path.{◌≡◌, refl, ap, ◌∙◌}
use mathlib.Core.List.{List, ◌∷◌}
use Prim.Native.Nat.{ℕ, zero, suc, ◌+◌, ◌*◌, ◌≤◌, ◌<◌}
use native.Mathlib.Nat.{zero-mul, suc-mul, add_comm, mul-le-mul, mul-le-mul_right, not-suc-le-zero, le_of_suc-le-suc}
use native.Mathlib.Omega.{arith}
use lib.ListN.{length, take, drop, length-drop}
use lib.Seq.{drop-drop, length-take-le}
use Rattle.rows.specs.Rows.{width, cut, row_at, rows_of}
use Rattle.cube.specs.Measure.{codes_of}

-- the places of a row are within the flat list
pub row_within : (w n i : ℕ) → i < n → i * w + w ≤ n * w
row_within w n i h = rw (← suc-mul i w) (mul-le-mul_right w h)

-- as many rows as an archive can have, of as many codes, have room in 11,264 words
pub rows_small : (d n : ℕ) → d ≤ 8 → n ≤ 1024 → n * width d ≤ 11264
rows_small d n h k =
    let wide : width d ≤ 11 = omega (arith, h) in
    let all = mul-le-mul k wide in
    omega (arith, all)

pub cut-length : (d n : ℕ) (ws : List ℕ) → length (cut d n ws) ≡ n
unfolding cut
cut-length d zero ws = refl
cut-length d (suc n) ws = ap suc (cut-length d n (drop (width d) ws))

pub rows-codes : (d n : ℕ) (ws : List ℕ) → codes_of (rows_of d n ws) ≡ cut d n ws
unfolding rows_of cut
rows-codes d zero ws = refl
rows-codes d (suc n) ws = ap (λ (l : List (List ℕ)). take d ws ∷ l) (rows-codes d n (drop (width d) ws))

pub row-at : (d n i : ℕ) (ws : List ℕ) → i < n → row_at (cut d n ws) i ≡ take d (drop (i * width d) ws)
unfolding cut
row-at d zero i ws h = absurd (not-suc-le-zero h)
row-at d (suc n) zero ws h = simp zero-mul
row-at d (suc n) (suc i) ws h =
    row-at d n i (drop (width d) ws) (le_of_suc-le-suc h) ∙ simp (drop-drop, suc-mul, add_comm (width d) (i * width d))

pub row-length : (d n i : ℕ) (ws : List ℕ) → i < n → n * width d ≡ length ws → length (row_at (cut d n ws) i) ≡ d
row-length d n i ws h e = rw row-at (length-take-le d (drop (i * width d) ws) (simp length-drop (omega (arith, row_within (width d) n i h))))
