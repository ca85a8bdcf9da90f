-- How long what is written is, so that there is room for it: laws under names that `using` can say, which takes no dash.
use mathlib.Core.Path.{◌≡◌, refl}
use mathlib.Core.List.{map}
use Prim.Native.Nat.{ℕ, suc, ◌+◌}
use lib.ListN.{length}
use Rattle.text_decimals.specs.Decimals.{decimal}
use Rattle.small_model.specs.Small.{up_to, binary}
use Rattle.small_model.specs.Tally.{tally, most_entries}
use Rattle.small_model.proofs.Binary.{binary-length}
use Rattle.small_lines.specs.Lines.{text_from, line, report}
use Rattle.small_lines.proofs.Texts.{line-length, report-length}

-- as many digits as dimensions
pub digits_length : (d j : ℕ) → length (binary d j) ≡ d
digits_length = binary-length

pub line_length : (d : ℕ) → length (line d) ≡ length (decimal d) + length (text_from 0 (map (tally d) (up_to (suc (most_entries d))))) + 1
line_length d = line-length d (map (tally d) (up_to (suc (most_entries d)))) refl

pub report_length : length report ≡ length (line 1) + length (line 2) + length (line 3)
report_length = report-length
