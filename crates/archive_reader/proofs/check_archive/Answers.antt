-- `archive_reader::check_archive` meets its contract: a reader is a place of the slice, and what the sections' answers say together is `Outline.antt`'s.
use mathlib.Core.Path.{◌≡◌, ap, ◌∙◌, subst}
use mathlib.Core.List.{List}
use Prim.Native.Nat.{ℕ}
use denote.Ref.{Bor}
use Rattle.stops.proofs.Handed.{handed}
use Rattle.archive_sections.proofs.Outline.{Head, Base, Cell, Close, Word, header_halts, bases_halts, cells_halts, close_halts, counted}
use Rattle.archive_reader.specs.Place.{reader_at}
use Rattle.archive_reader.specs.declared.Reader.{Reader}
use Rattle.archive_reader.proofs.check_archive.Goals as goal

-- what is known at a reader's place is known at that place of the slice; a reader that was moved is at the new place
there : {X : Type 0} (Φ : List ℕ → ℕ → X → Type 0) {s : Bor (List ℕ)} {n : ℕ} {r : Reader} {x : X} → r ≡ reader_at s n → Φ r.src.now r.at x → Φ s.now n x
there Φ {x = x} e h = subst (λ (y : Reader). Φ y.src.now y.at x) e h

moved-from : {s : Bor (List ℕ)} {m n : ℕ} {r r' : Reader} → r ≡ reader_at s m → r' ≡ reader_at r.src n → r' ≡ reader_at s n
moved-from {n = n} e h = h ∙ ap (λ (y : Reader). reader_at y.src n) e

pub returns-in_err-header : goal.returns-in_err-header
returns-in_err-header c =
    rw (handed c.from_residual.result c.from_residual.ensures.1) (header_halts c.args.s.now (there Head c.start-r.ensures c.in_err-header.ensures))

pub returns-in_err-bases : goal.returns-in_err-bases
returns-in_err-bases c =
    let e = c.start-r.ensures in
    let f = moved-from e c.moved-base.ensures in
    rw (handed c.from_residual-in_err-bases.result c.from_residual-in_err-bases.ensures.1)
    (bases_halts c.args.s.now (there Head e c.in_ok-header.ensures) (there Base f c.in_err-bases.ensures))

pub returns-in_err-cells : goal.returns-in_err-cells
returns-in_err-cells c =
    let e = c.start-r.ensures in
    let f = moved-from e c.moved-base.ensures in
    let g = moved-from f c.moved-normal.ensures in
    rw (handed c.from_residual-in_err-cells.result c.from_residual-in_err-cells.ensures.1)
    (cells_halts c.args.s.now (there Head e c.in_ok-header.ensures) (there Base f c.in_ok-bases.ensures) (there Cell g c.in_err-cells.ensures))

pub returns-in_err-close : goal.returns-in_err-close
returns-in_err-close c =
    let e = c.start-r.ensures in
    let f = moved-from e c.moved-base.ensures in
    let g = moved-from f c.moved-normal.ensures in
    let h = moved-from g c.moved-check.ensures in
    rw (handed c.from_residual-in_err-close.result c.from_residual-in_err-close.ensures.1)
    (close_halts c.args.s.now (there Head e c.in_ok-header.ensures) (there Base f c.in_ok-bases.ensures) (there Cell g c.in_ok-cells.ensures) (there Close h c.in_err-close.ensures))

pub returns : goal.returns
returns c =
    let e = c.start-r.ensures in
    let f = moved-from e c.moved-base.ensures in
    let g = moved-from f c.moved-normal.ensures in
    let h = moved-from g c.moved-check.ensures in
    counted c.args.s.now (there Head e c.in_ok-header.ensures) (there Base f c.in_ok-bases.ensures) (there Cell g c.in_ok-cells.ensures) (there Close h c.in_ok-close.ensures)
    (there Word (moved-from e c.moved.ensures) c.word.ensures) (there Word f c.word-2.ensures) (there Word g c.word-3.ensures)
