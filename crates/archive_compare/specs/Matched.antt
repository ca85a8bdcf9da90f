-- Bytes compared with what they should be, part by part from the left.
--
--   Meets s at xs w               w says whether the bytes s have xs from a place on: the place behind them, or stop 12
--   Matched s at xs w             the same as a record, which code's contracts name
--   Matching all left s at₀ at    of the bytes `all`, all but `left` stand in s from at₀ on, and end at the place at
use Rattle.std.specs.Prelude.{◌≡◌, true, false, List, ◌++◌, ℕ, ◌+◌, ◌≤◌, length, drop, Result, Ok, Err}
use Rattle.fields.specs.Opening.{starts_with}
use Rattle.stops.specs.declared.Stop.{Stop}
use Rattle.stops.specs.Numbers.{number}

abbrev pub Meets : List ℕ → ℕ → List ℕ → Result ℕ Stop → Type 0
Meets s at xs (Err e) = (number e ≡ 12) × (starts_with (drop at s) xs ≡ false)
Meets s at xs (Ok k) = (starts_with (drop at s) xs ≡ true) × (k ≡ at + length xs) × (k ≤ length s)

pub record Matched (s : List ℕ) (at : ℕ) (xs : List ℕ) (w : Result ℕ Stop) : Type 0 where
  pub meets : Meets s at xs w

pub record Matching (all left s : List ℕ) (at₀ at : ℕ) : Type 0 where
  pub done : List ℕ
  pub whole : done ++ left ≡ all
  pub begun : starts_with (drop at₀ s) done ≡ true
  pub place : at ≡ at₀ + length done
  pub within : at ≤ length s
