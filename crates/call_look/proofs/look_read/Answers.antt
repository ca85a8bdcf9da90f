-- `call_look::look_read` meets its contract: the question is tested, and the entry that stands for its cell answers it.
use mathlib.Core.Path.{◌≡◌, sym, ◌∙◌}
use Prim.Native.Nat.{◌+◌, ◌-◌, ◌*◌, ◌≤◌}
use native.Mathlib.Nat.{mul-le-mul}
use native.Mathlib.Omega.{arith}
use lib.ListN.{length}
use Rattle.cube.specs.Measure.{sums as measure}
use Rattle.cube.specs.Codes.{plain}
use Rattle.cube.specs.Condensed.{ours, lookup}
use Rattle.rows.specs.Rows.{rows_of}
use Rattle.rows.proofs.Fronts.{fronted, of_front}
use Rattle.rows_ready.specs.Ready.{Ready}
use Rattle.call_questions.specs.Questions.{looked, NormalsAt}
use Rattle.call_ask.proofs.Opened.{opened_of}
use Rattle.call_look.proofs.Asked.{look_stopped, look-long, look_told}
use Rattle.call_look.proofs.Normals.{opened_long, normals-room, normals-held}
use borrow.Author.Rules.{rules}
use Rattle.call_look.proofs.look_read.Goals as goal

pub fits-requires : goal.fits-requires
fits-requires c = opened_long (opened_of c.args.archive.now)

pub returns-then-not-fits : goal.returns-then-not-fits
returns-then-not-fits c = look_stopped (opened_of c.args.archive.now) c.args.question.now (sym c.if-not-fits.true ∙ c.fits.ensures)

pub overflow_sub-at : goal.overflow_sub-at
overflow_sub-at c = omega (arith, normals-room (opened_of c.args.archive.now))

pub overflow_mul-at-2 : goal.overflow_mul-at-2
overflow_mul-at-2 c =
    let h : c.args.archive.now.shape.cells ≤ 4294967295 = search rules in
    let k : 4 * c.args.archive.now.shape.dims + 12 ≤ 44 = omega (arith, (opened_of c.args.archive.now).ready.dims) in
    let m = mul-le-mul h k in
    omega (arith, m)

pub overflow_sub-at-2 : goal.overflow_sub-at-2
overflow_sub-at-2 c = omega (arith, normals-room (opened_of c.args.archive.now))

pub answer-requires : goal.answer-requires
answer-requires c =
    let a = c.args in
    let o = opened_of c.args.archive.now in
    let at = length a.archive.now.bytes.now - 4 - a.archive.now.shape.cells * (4 * a.archive.now.shape.dims + 12) in
    let long : length a.question.now ≡ a.archive.now.shape.dims = look-long o a.question.now (sym c.if-not-fits.false ∙ c.fits.ensures) in
    record {
      ready = fronted a.archive.now.words.now (λ d n ws. Ready d n ws × (length a.question.now ≡ d)) c.rows-rows.ensures (o.ready, long);
      normals_at = fronted a.archive.now.words.now (λ d n ws. NormalsAt a.archive.now.bytes.now at a.archive.now.shape.cells d (rows_of d n ws)) c.rows-rows.ensures (normals-held o);
    }

pub returns : goal.returns
returns c =
    let a = c.args in
    let q = a.question.now in
    look_told (opened_of c.args.archive.now) q (sym c.if-not-fits.false ∙ c.fits.ensures)
    (of_front a.archive.now.words.now (λ d n ws. c.answer.result ≡ looked (lookup (plain d) q (ours (plain d) measure (rows_of d n ws)))) c.rows-rows.ensures c.answer.ensures)
