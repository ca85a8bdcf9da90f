-- `call_window::window_read` meets its contract: the window and the question are tested in their order, and a look-up answers, without its entry's number.
use mathlib.Core.Path.{◌≡◌, sym, ◌∙◌}
use Prim.Native.Nat.{ℕ}
use native.Mathlib.Omega.{arith}
use Rattle.std.specs.Prelude.{Option, Result}
use Rattle.stops.proofs.Handed.{handed}
use Rattle.call_questions.specs.declared.Cell.{Cell}
use Rattle.call_answers.specs.Calls.{looks_up}
use Rattle.call_ask.proofs.Opened.{OpenedIn, opened_of}
use Rattle.call_look.proofs.Asked.{look-long}
use Rattle.call_look.proofs.Normals.{opened_long}
use Rattle.call_window.specs.Windows.{asks_window, unnumbered_found}
use Rattle.call_window.proofs.Asked.{no_dimension, high-dimension, no_code, no_question, other-code, looked_through, without_entry}
use borrow.Author.Rules.{rules}
use Rattle.call_window.proofs.window_read.Goals as goal
use Rattle.call_window.proofs.window_read.Goals.{After-look_read}

-- the window's own question is looked up
through : (c : goal.After-look_read) {f : Result (Option Cell) ℕ} → (let a = c.args in OpenedIn a.archive.now.bytes.now a.archive.now.shape.dims a.archive.now.shape.bases a.archive.now.shape.cells a.archive.now.words.now → f ≡ looks_up a.archive.now.bytes.now a.question.now → unnumbered_found f ≡ asks_window a.archive.now.bytes.now a.dimension a.code a.question.now)
through c o = let a = c.args in looked_through o a.dimension a.code a.question.now (omega arith) c.if-shape-dimension.false c.word_at.ensures c.if-word_at-code.false (sym c.if-not-fits.false ∙ c.fits.ensures) c.if-question-i.false

pub returns-then-dimension-eq0 : goal.returns-then-dimension-eq0
returns-then-dimension-eq0 c = let a = c.args in no_dimension (opened_of c.args.archive.now) a.dimension a.code a.question.now c.if-dimension-eq0.true

pub returns-then-shape-dimension : goal.returns-then-shape-dimension
returns-then-shape-dimension c = let a = c.args in high-dimension (opened_of c.args.archive.now) a.dimension a.code a.question.now c.if-shape-dimension.true

pub word_at-requires : goal.word_at-requires
word_at-requires c = omega (arith, opened_long (opened_of c.args.archive.now), c.if-shape-dimension.false)

pub returns-then-word_at-code : goal.returns-then-word_at-code
returns-then-word_at-code c = let a = c.args in no_code (opened_of c.args.archive.now) a.dimension a.code a.question.now (omega arith) c.if-shape-dimension.false c.word_at.ensures c.if-word_at-code.true

pub fits-requires : goal.fits-requires
fits-requires c = opened_long (opened_of c.args.archive.now)

pub returns-then-not-fits : goal.returns-then-not-fits
returns-then-not-fits c = let a = c.args in no_question (opened_of c.args.archive.now) a.dimension a.code a.question.now (omega arith) c.if-shape-dimension.false c.word_at.ensures c.if-word_at-code.false (sym c.if-not-fits.true ∙ c.fits.ensures)

pub bounds-question-i : goal.bounds-question-i
bounds-question-i c = omega (arith, look-long (opened_of c.args.archive.now) c.args.question.now (sym c.if-not-fits.false ∙ c.fits.ensures), c.if-shape-dimension.false)

pub returns-then-question-i : goal.returns-then-question-i
returns-then-question-i c = let a = c.args in other-code (opened_of c.args.archive.now) a.dimension a.code a.question.now (omega arith) c.if-shape-dimension.false c.word_at.ensures c.if-word_at-code.false (sym c.if-not-fits.false ∙ c.fits.ensures) c.if-question-i.true

pub returns-in_err-found : goal.returns-in_err-found
returns-in_err-found c =
    rw (handed c.from_residual.result c.from_residual.ensures.1)
    (through (goal.at.returns-in_err-found c).After-look_read (opened_of c.args.archive.now) c.in_err-found.ensures)

pub returns : goal.returns
returns c =
    without_entry c.in_ok-found.found (λ x y h. search rules) c.map.ensures.cases
    ∙ through (goal.at.returns c).After-look_read (opened_of c.args.archive.now) c.in_ok-found.ensures
