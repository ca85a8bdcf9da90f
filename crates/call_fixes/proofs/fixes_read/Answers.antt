-- `call_fixes::fixes_read` meets its contract: the set's number is tested, then the dimension's; a key fixes each, and otherwise the rows tell.
use mathlib.Core.Path.{◌≡◌, refl, sym, ◌∙◌}
use mathlib.Core.Bool.{true}
use mathlib.Core.List.{List}
use Prim.Native.Nat.{ℕ, ◌*◌}
use native.Mathlib.Omega.{arith}
use lib.ListN.{take}
use lib.Pow.{pow_mono}
use Rattle.lattice.proofs.Sets.{sets_of}
use Rattle.cube.specs.Codes.{plain}
use Rattle.cube.specs.Keys.{fixes, dimension}
use Rattle.cube.proofs.Keys.{key-fixes}
use Rattle.rows.specs.Rows.{width, cut}
use Rattle.rows.proofs.Fronts.{fronted, of_front}
use Rattle.call_answers.proofs.Outcomes.{fixes_no_set, fixes_zero, fixes-high, fixes-told}
use Rattle.call_ask.proofs.Opened.{opened_of}
use Rattle.call_keys.specs.Laid.{Laid}
use Rattle.call_keys.proofs.Bare.{bare-none, bare-key}
use Rattle.call_keys.proofs.Outcomes.{laid, shared_in}
use Rattle.call_fixes.proofs.fixes_read.Goals as goal
use Rattle.call_fixes.proofs.fixes_read.Goals.{After-rows_fix}

-- what the rows tell, of the dimension
told : (c : goal.After-rows_fix) → (let a = c.args in
    c.rows_fix.result ≡ fixes (plain a.archive.now.shape.dims) (cut a.archive.now.shape.dims a.archive.now.shape.bases (take (a.archive.now.shape.bases * width a.archive.now.shape.dims) a.archive.now.words.now)) a.set (dimension a.dimension))
told c =
    let a = c.args in
    of_front a.archive.now.words.now (λ (d n : ℕ) (ws : List ℕ). c.rows_fix.result ≡ fixes (plain d) (cut d n ws) a.set (dimension a.dimension)) c.rows.ensures (rw (← c.sets_of-fixed.ensures) c.rows_fix.ensures)

pub sets_of-requires : goal.sets_of-requires
sets_of-requires c = (opened_of c.args.archive.now).ready.dims

pub returns-then-sets_of-set : goal.returns-then-sets_of-set
returns-then-sets_of-set c = fixes_no_set (opened_of c.args.archive.now) c.args.dimension (omega (arith, c.if-sets_of-set.true, c.sets_of.ensures))

pub returns-then-dimension-eq0 : goal.returns-then-dimension-eq0
returns-then-dimension-eq0 c = fixes_zero (opened_of c.args.archive.now) (omega (arith, c.if-sets_of-set.false, c.sets_of.ensures)) c.if-dimension-eq0.true

pub returns-then-shape-dimension : goal.returns-then-shape-dimension
returns-then-shape-dimension c = fixes-high (opened_of c.args.archive.now) (omega (arith, c.if-sets_of-set.false, c.sets_of.ensures)) c.if-shape-dimension.true

-- the set is one of the archive's, of which there are 256 at most
pub bounds-used-set : goal.bounds-used-set
bounds-used-set c =
    let o = opened_of c.args.archive.now in
    omega (arith, (shared_in o c.args.archive.now.words.now c.args.used.now refl c.requires).sets, c.if-sets_of-set.false, c.sets_of.ensures, pow_mono {i = c.args.archive.now.shape.dims} {j = 8} o.ready.dims)

-- a key
pub returns-then-bare : goal.returns-then-bare
returns-then-bare c =
    let a = c.args in
    let o = opened_of c.args.archive.now in
    let l = laid o in
    let key = sym (bare-key l (shared_in o a.archive.now.words.now a.used.now refl c.requires) (sets_of a.archive.now.shape.dims (omega (arith, c.if-sets_of-set.false, c.sets_of.ensures)))) ∙ bare-none a.archive.now.shape.dims a.used.now a.set (omega (arith, c.if-bare.true)) in
    fixes-told o (omega (arith, c.if-sets_of-set.false, c.sets_of.ensures)) c.if-dimension-eq0.false c.if-shape-dimension.false {b = true}
    (sym ((key-fixes a.archive.now.shape.dims (cut a.archive.now.shape.dims a.archive.now.shape.bases (take (a.archive.now.shape.bases * width a.archive.now.shape.dims) a.archive.now.words.now)) l.base.valid a.set).0 key a.dimension (omega (arith, c.if-dimension-eq0.false)) c.if-shape-dimension.false))

pub sets_of-fixed-requires : goal.sets_of-fixed-requires
sets_of-fixed-requires c = omega (arith, c.if-shape-dimension.false, (opened_of c.args.archive.now).ready.dims)

pub rows_fix-requires : goal.rows_fix-requires
rows_fix-requires c = fronted c.args.archive.now.words.now Laid c.rows.ensures (laid (opened_of c.args.archive.now))

pub returns : goal.returns
returns c = fixes-told (opened_of c.args.archive.now) (omega (arith, c.if-sets_of-set.false, c.sets_of.ensures)) c.if-dimension-eq0.false c.if-shape-dimension.false (told (goal.at.returns c).After-rows_fix)
