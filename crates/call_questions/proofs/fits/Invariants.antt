use mathlib.Core.Path.{◌≡◌}
use Prim.Native.Nat.{◌*◌}
use lib.ListN.{length}
use Rattle.fields.specs.Words.{words, words_at}
use Rattle.call_questions.specs.Questions.{asks}
use Rattle.call_questions.proofs.fits.Given as goal

abbrev pub invariant-loop-code : goal.invariant-loop-code
invariant-loop-code l =
    let bytes = l.code-iterator.b.rest.now in
    let codes = l.code-iterator.a.rest.now in
    (l.code-iterator.b.size ≡ 4) × (length bytes ≡ 4 * length codes) × (asks (words bytes) codes ≡ asks (words_at l.s l.dims 8) l.question)
