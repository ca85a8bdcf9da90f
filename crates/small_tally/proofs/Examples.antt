-- What the program prints, computed from the definitions.
use mathlib.Core.Path.{◌≡◌, ap}
use mathlib.Core.List.{List, ◌++◌, flat_map}
use Prim.Native.Nat.{ℕ}
use lib.ListN.{length}
use Rattle.text_decimals.specs.Decimals.{ascii, digits_in, decimal}
use Rattle.small_model.proofs.Examples.{one-dimension, two_dimensions, three_dimensions}
use Rattle.small_lines.specs.Lines.{gap, spaced, line, report}

line-one : line 1 ≡ ascii "1 1 3 3 1\n"
unfolding line spaced gap decimal digits_in flat_map
line-one = ap (λ (l : List ℕ). spaced l ++ ascii "\n") one-dimension

line_two : line 2 ≡ ascii "2 1 5 3 2 4 4 6 4 9 1\n"
unfolding line spaced gap decimal digits_in flat_map
line_two = ap (λ (l : List ℕ). spaced l ++ ascii "\n") two_dimensions

line_three : line 3 ≡ ascii "3 1 9 3 4 4 12 6 12 7 8 8 24 9 24 11 10 12 48 13 6 14 6 15 8 16 48 19 16 20 12 23 8 27 1\n"
unfolding line spaced gap decimal digits_in flat_map
line_three = ap (λ (l : List ℕ). spaced l ++ ascii "\n") three_dimensions

pub report_text : report ≡ ascii "1 1 3 3 1\n2 1 5 3 2 4 4 6 4 9 1\n3 1 9 3 4 4 12 6 12 7 8 8 24 9 24 11 10 12 48 13 6 14 6 15 8 16 48 19 16 20 12 23 8 27 1\n"
unfolding report
report_text = rw (line-one, line_two, line_three)

pub report-size : length report ≡ 121
report-size = ap length report_text
