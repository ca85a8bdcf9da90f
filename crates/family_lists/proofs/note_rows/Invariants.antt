-- `family_lists::note_rows`: the rows so far have the node.
use Rattle.family_lists.proofs.Notes.{Noting}
use Rattle.family_lists.proofs.note_rows.Given as goal

abbrev pub invariant-loop-row : goal.invariant-loop-row
invariant-loop-row l = Noting l.rows l.node l.initial.listed l.listed l.row-index
