-- A list that is written just if there is room for it.
--
--   Fitted xs l m n     n is the length of xs; where that is at most the length of l, m is l with xs written over its front, and l otherwise
use Rattle.std.specs.Prelude.{◌≡◌, List, ℕ, ◌≤◌, ◌<◌, length}
use Rattle.fields.specs.Written.{written}

pub record Fitted (xs l m : List ℕ) (n : ℕ) : Type 0 where
  pub count : n ≡ length xs
  pub fits : length xs ≤ length l → m ≡ written xs l
  pub short : length l < length xs → m ≡ l
