-- `lattice::sets_of` meets its contract: the power fits 32 bits.
use mathlib.Core.Path.{◌∙◌}
use native.Mathlib.Nat.{one-mul}
use native.Mathlib.Omega.{arith}
use Prim.Native.Nat.{◌^◌}
use lib.Dec.{lit<}
use lib.Pow.{shl_exact}
use Rattle.lattice.proofs.sets_of.Goals as goal

pub returns : goal.returns
returns c = shl_exact {a = 1} 1 c.args.dims 32 (lit< tt) (omega arith) ∙ one-mul (2 ^ c.args.dims)
