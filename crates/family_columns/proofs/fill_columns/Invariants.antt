-- `family_columns::fill_columns`: the columns of the dimensions before are filled.
use Rattle.rows.specs.Slices.{codes}
use Rattle.family_columns.proofs.Dimensions.{Columning}
use Rattle.family_columns.proofs.fill_columns.Given as goal

abbrev pub invariant-loop-d : goal.invariant-loop-d
invariant-loop-d l = Columning l.s l.sizes l.counts l.places (codes l.rows) l.initial.columns l.columns l.len l.d
