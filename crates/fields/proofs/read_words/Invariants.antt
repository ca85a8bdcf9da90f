use Prim.Native.Nat.{◌+◌, ◌-◌, ◌*◌}
use mathlib.Core.Path.{◌≡◌}
use mathlib.Core.List.{◌++◌}
use lib.ListN.{length, take}
use Rattle.fields.specs.Words.{words_at}
use Rattle.fields.proofs.read_words.Given as goal

abbrev pub invariant-loop-i : goal.invariant-loop-i
invariant-loop-i l = words_at l.s (length l.initial.out) l.at ≡ take l.i l.out ++ words_at l.s (length l.initial.out - l.i) (l.at + 4 * l.i)
