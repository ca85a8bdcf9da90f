-- `archive_groups::mask_of` meets its contract. The invariant: the places before dimension d are right.
use mathlib.Core.Path.{◌≡◌}
use Rattle.rows_deals.proofs.Sums.{fill_more}
use Rattle.archive_groups.specs.Masks.{missing_of}
use borrow.Author.Rules.{rules}
use Rattle.archive_groups.proofs.mask_of.Goals as goal

pub loop-d-preserved : goal.loop-d-preserved
unfolding missing_of
loop-d-preserved c =
    let l = c.loop-d in
    fill_more l.mask-items l.d _ (search rules) (λ k v. v ≡ missing_of c.args.set k) l.invariant c.shown_code.ensures
