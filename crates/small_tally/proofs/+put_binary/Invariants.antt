-- The measure of `put_binary`: the number of digits. The call writes all but the last.
use Rattle.small_tally.proofs.+put_binary.Given as goal

abbrev pub decreases-put_binary : goal.decreases-put_binary
decreases-put_binary l = l.dims
