-- `fields::word_at` meets its contract. It is the definition, byte by byte.
use native.Mathlib.Omega.{arith}
use Rattle.fields.specs.Words.{word_at}
use Rattle.fields.proofs.word_at.Goals as goal

pub returns : goal.returns
unfolding word_at
returns c = omega (arith, c.from_le_bytes.ensures)
