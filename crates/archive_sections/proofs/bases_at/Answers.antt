-- `archive_sections::bases_at` meets its contract: the header is read again, and its sizes are the words behind D.
use mathlib.Core.Path.{ap, sym, ◌∙◌}
use mathlib.Core.List.{List, [], ◌∷◌}
use Prim.Native.Nat.{ℕ}
use native.Mathlib.Omega.{arith}
use lib.ListN.{drop}
use lib.Seq.{length-take-le}
use borrow.Author.Rules.{rules}
use Rattle.stops.proofs.Handed.{handed}
use Rattle.fields_walk.proofs.Steps.{walked_as}
use Rattle.fields_walk.proofs.Places.{header_read}
use Rattle.archive_entries.specs.Layout.{CUBE}
use Rattle.archive_entries.specs.Reading.{bases}
use Rattle.archive_entries.proofs.Front.{front_is, front_length, front-room}
use Rattle.archive_entries.proofs.Walking.{Opened, opened}
use Rattle.archive_sections.proofs.Ends.{bases-off, bases_on, bases_past}
use Rattle.archive_sections.proofs.bases_at.Goals as goal
use Rattle.archive_sections.proofs.bases_at.Goals.{After-word_at-d}

abbrev zeros : List ℕ
zeros = 0 ∷ 0 ∷ 0 ∷ 0 ∷ 0 ∷ 0 ∷ 0 ∷ 0 ∷ []

front : (c : goal.After-word_at-d) → Opened c.args.s.now c.word_at-d.result c.in_ok-check_header.field-0
front c = opened c.args.s.now c.in_ok-check_header.ensures.says c.word_at-d.ensures

pub returns-in_err-check_header : goal.returns-in_err-check_header
returns-in_err-check_header c =
    let a = c.args in
    rw (handed c.from_residual.result c.from_residual.ensures.1) (record { says = bases-off a.s.now a.at c.in_err-check_header.ensures.says })

pub returns-then-s-at : goal.returns-then-s-at
returns-then-s-at c = let a = c.args in record { says = bases_past a.s.now a.at c.in_ok-check_header.ensures.says.1 c.if-s-at.true }

pub word_at-d-requires : goal.word_at-d-requires
word_at-d-requires c = omega (arith, (header_read c.args.s.now CUBE c.in_ok-check_header.ensures.says.1).whole)

pub slice_bounds-sizes-end : goal.slice_bounds-sizes-end
slice_bounds-sizes-end c = (front c).few

pub slice_bounds-read_words-end : goal.slice_bounds-read_words-end
slice_bounds-read_words-end c = sym (length-take-le c.word_at-d.result zeros (front (goal.at.slice_bounds-read_words-end c).After-word_at-d).few)

pub read_words-requires : goal.read_words-requires
read_words-requires c = rw (length-take-le c.word_at-d.result zeros (front (goal.at.read_words-requires c).After-word_at-d).few) (front (goal.at.read_words-requires c).After-word_at-d).whole

pub slice_bounds-sizes-end-2 : goal.slice_bounds-sizes-end-2
slice_bounds-sizes-end-2 c = front-room _ zeros _ _ (front (goal.at.slice_bounds-sizes-end-2 c).After-word_at-d).few c.read_words.ensures

pub slice_bounds-check_bases-end : goal.slice_bounds-check_bases-end
slice_bounds-check_bases-end c = front_length _ zeros _ _ (front (goal.at.slice_bounds-check_bases-end c).After-word_at-d).few c.read_words.ensures

pub check_bases-requires : goal.check_bases-requires
check_bases-requires c =
    let f = front (goal.at.check_bases-requires c).After-word_at-d in
    let l = front_length _ zeros _ _ f.few c.read_words.ensures in
    (omega (arith, l, f.some), omega (arith, l, f.few), search rules)

pub returns : goal.returns
returns c =
    let a = c.args in
    let f = front (goal.at.returns c).After-word_at-d in
    let zs = front_is _ zeros _ _ f.few c.read_words.ensures in
    walked_as (bases_on a.s.now a.at f.read ∙ ap (λ (x : List ℕ). bases x (drop a.at a.s.now)) (sym zs)) c.check_bases.ensures
