-- `family_columns::fill_dimension`: the codes of level l are in hand, and those of the levels up to it in their columns.
use Rattle.rows.specs.Slices.{codes}
use Rattle.family_columns.proofs.Filling.{Filling}
use Rattle.family_columns.proofs.fill_dimension.Given as goal

abbrev pub invariant-loop-l : goal.invariant-loop-l
invariant-loop-l l = Filling l.s l.z l.places l.d (codes l.rows) l.initial.columns l.work l.columns l.below l.l
