-- `call_questions::fits` meets its contract: what is left of the question fits what is left of the sizes just where the question fits the sizes.
use mathlib.Core.Bool.{true}
use mathlib.Core.Logic.{inl, inr}
use mathlib.Core.Path.{◌≡◌, refl, sym, ap, ◌∙◌}
use Prim.Native.Nat.{◌+◌, ◌*◌, ◌-◌, ◌<◌}
use native.Mathlib.Omega.{arith}
use borrow.Author.Rules.{rules}
use borrow.Author.Tests.{eq-eqb, ne_eqb}
use lib.ListN.{length, take, drop, length-append, length-drop}
use lib.Seq.{length-take-le}
use Rattle.fields.specs.Words.{words_at}
use Rattle.fields.specs.WordsLaws.{length_words_at}
use Rattle.fields.proofs.Chunks.{words_part}
use Rattle.call_questions.proofs.Pairs.{asks-length, allows, allows_below, allows_all, allows_not}
use Rattle.call_questions.proofs.Sizes.{asks-more, asks-less, asks-none}
use Rattle.call_questions.proofs.fits.Goals as goal
use Rattle.call_questions.proofs.fits.Goals.{else-code-size-via-then-code-size+else-code-ne65535, else-code-size-via-else-code-size}

pub returns-then-question-dims : goal.returns-then-question-dims
returns-then-question-dims c =
    let a = c.args in
    sym (asks-length (words_at a.s.now a.dims 8) a.question.now (λ e. c.if-question-dims.true (e ∙ length_words_at a.s.now a.dims 8)))

pub loop-code-init : goal.loop-code-init
loop-code-init c =
    let a = c.args in
    let k : 8 + 4 * a.dims - 8 ≡ 4 * a.dims = omega arith in
    let bytes : c.into_iter-code-iterator.result.b.rest.now ≡ take (4 * a.dims) (drop 8 a.s.now) = search (rules, k) in
    let codes : c.into_iter-code-iterator.result.a.rest.now ≡ a.question.now = search rules in
    let long : length (take (4 * a.dims) (drop 8 a.s.now)) ≡ 4 * a.dims = length-take-le (4 * a.dims) (drop 8 a.s.now) (simp length-drop (omega (arith, c.requires))) in
    (search rules, omega (arith, ap length bytes, ap length codes, long, c.if-question-dims.false), rw (bytes, codes, words_part a.s.now a.dims 8 c.requires) refl)

pub returns-then-code-ne65535 : goal.returns-then-code-ne65535
returns-then-code-ne65535 c =
    let v = c.loop-code.invariant in
    let step = c.in-Some.ensures.steps in
    sym (sym v.2 ∙ asks-less _ c.in-Some.bytes.now _ _ _ c.word_at-size.result c.in-Some.field-0-0.now step.1.1.0 (omega (arith, step.1.1.1, v.0)) c.word_at-size.ensures step.0 (allows_not _ _ c.if-code-size.true (ne_eqb _ _ c.if-code-ne65535.true)))

pub loop-code-preserved : goal.loop-code-preserved
loop-code-preserved c =
    let v = c.loop-code.invariant in
    let step = c.in-Some.ensures.steps in
    let bytes = c.in-Some.bytes.now in
    let size = c.word_at-size.result in
    let code = c.in-Some.field-0-0.now in
    let allowed : allows size code ≡ true = elim c.else-code-size.branch [
      | else-code-size-via-then-code-size+else-code-ne65535 w ↦ allows_all size code (eq-eqb code 65535 w.if-code-ne65535.false)
      | else-code-size-via-else-code-size w ↦ allows_below size code w.if-code-size.false
    ] in (
      step.1.0 ∙ v.0,
      omega (arith, ap length step.0, ap length step.1.1.0, length-append bytes c.next.new.self.b.rest.now, step.1.1.1, v.0, v.1),
      sym (asks-more _ bytes _ _ _ size code step.1.1.0 (omega (arith, step.1.1.1, v.0)) c.word_at-size.ensures step.0 allowed) ∙ v.2,
    )

-- no size is left where no code is
short : (c : goal.In-None) → length c.loop-code.code-iterator.b.rest.now < 4
short c =
    let v = c.loop-code.invariant in
    elim c.in-None.ensures.steps [
      | inl w ↦ omega (arith, w.1.0, v.1)
      | inr w ↦ omega (arith, w.1.1.0, v.0)
    ]

pub returns : goal.returns
returns c = let v = c.loop-code.invariant in sym (sym v.2 ∙ asks-none _ _ v.1 (short c))
