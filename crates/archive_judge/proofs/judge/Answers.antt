-- `archive_judge::judge` meets its contract: the rows are condensed, and what they require is compared with what stands behind the sizes.
use native.Mathlib.Omega.{arith}
use Rattle.fields_walk.proofs.Limits.{bytes_of}
use Rattle.rows_ready.proofs.Ready.{ready-base}
use Rattle.archive_compare.specs.MatchedLaws.{matched_told}
use Rattle.archive_normals.specs.Grouped.{Grouped}
use Rattle.archive_judge.proofs.Judged.{read-ready, read-start, other_of, judged_of}
use Rattle.archive_judge.proofs.judge.Goals as goal
use Rattle.archive_judge.proofs.judge.Goals.{After-condense_rows-cells}

pub condense_rows-cells-requires-clause-n_bound : goal.condense_rows-cells-requires-clause-n_bound
condense_rows-cells-requires-clause-n_bound c = let r = read-ready (bytes_of c.args.s.now (λ i. omega (arith, c.type_inv.s i))) c.requires.0 in (r.few, r.dims, ready-base r)

-- the rows are grouped
grouped : (c : goal.After-condense_rows-cells) → (let r = c.args.rows.now in let m = c.condense_rows-cells.new in Grouped r.dims r.n r.words.now m.store m.sizes)
grouped c = record {
  ready = read-ready (bytes_of c.args.s.now (λ i. omega (arith, c.type_inv.s i))) c.requires.0;
  room = omega arith;
  sets = omega arith;
  slots = c.condense_rows-cells.ensures.all_hold;
}

pub overflow_mul-start : goal.overflow_mul-start
overflow_mul-start c = omega (arith, (grouped (goal.at.overflow_mul-start c).After-condense_rows-cells).ready.dims)

pub overflow_add-start : goal.overflow_add-start
overflow_add-start c = omega (arith, (grouped (goal.at.overflow_add-start c).After-condense_rows-cells).ready.dims)

pub match_sections-requires-clause-listed : goal.match_sections-requires-clause-listed
match_sections-requires-clause-listed c =
    let l = c.condense_rows-cells.ensures.lists_after in
    let g = grouped (goal.at.match_sections-requires-clause-listed c).After-condense_rows-cells in (
      record { ready = g.ready; room = omega arith; short = l.1; lists = l.0 },
      g,
      omega (arith, read-start (bytes_of c.args.s.now (λ i. omega (arith, c.type_inv.s i))) c.requires.0),
    )

pub returns-in-Err : goal.returns-in-Err
returns-in-Err c = record {
  value = other_of (bytes_of c.args.s.now (λ i. omega (arith, c.type_inv.s i))) c.requires.0 (matched_told c.in-Err.is c.match_sections.ensures);
  grouped = grouped (goal.at.returns-in-Err c).After-condense_rows-cells;
}

pub returns-in-Ok : goal.returns-in-Ok
returns-in-Ok c = record {
  value = judged_of (bytes_of c.args.s.now (λ i. omega (arith, c.type_inv.s i))) c.requires.0 (matched_told c.in-Ok.is c.match_sections.ensures);
  grouped = grouped (goal.at.returns-in-Ok c).After-condense_rows-cells;
}
