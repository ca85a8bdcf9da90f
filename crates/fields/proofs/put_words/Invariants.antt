use lib.ListN.{take}
use Rattle.fields.specs.Words.{words_bytes}
use Rattle.fields.specs.Written.{Wrote}
use Rattle.fields.proofs.put_words.Given as goal

abbrev pub invariant-loop-w : goal.invariant-loop-w
invariant-loop-w l = Wrote (words_bytes (take l.w-index l.ws)) l.initial.out l.out l.at
