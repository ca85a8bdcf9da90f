-- `archive_entries::check_rising` meets its contract: the codes, then the test against those before.
use mathlib.Core.Path.{refl, sym, ◌∙◌}
use mathlib.Core.List.{[]}
use Prim.Native.Nat.{◌≤◌}
use lib.ListN.{length}
use borrow.Author.Rules.{rules}
use Rattle.stops.proofs.Handed.{handed}
use Rattle.lists.proofs.Order.{earlier-none}
use Rattle.fields.specs.Words.{words_at}
use Rattle.fields.specs.WordsLaws.{length_words_at}
use Rattle.fields_walk.proofs.Found.{finds_codes}
use Rattle.archive_entries.specs.Places.{codes_before}
use Rattle.archive_entries.proofs.Parts.{rising-off, rising_on, rising_not}
use Rattle.archive_entries.proofs.check_rising.Goals as goal

pub returns-in_err-next : goal.returns-in_err-next
returns-in_err-next c =
    let a = c.args in
    rw (handed c.from_residual.result c.from_residual.ensures.1) (record { says = rising-off a.s.now a.sizes.now (codes_before a.s.now (length a.sizes.now) a.before) a.at c.in_err-next.ensures.says })

pub returns-in-None : goal.returns-in-None
returns-in-None c =
    let a = c.args in
    let mine = words_at a.s.now (length a.sizes.now) a.at in
    let some : 1 ≤ length mine = rw length_words_at (search rules) in
    rw c.in-None.is (record { says = rising_on a.s.now a.sizes.now [] a.at (search rules) c.in_ok-next.ensures.says (earlier-none [] mine refl some) })

pub is_after-requires : goal.is_after-requires
is_after-requires c =
    let a = c.args in
    let w = ((finds_codes a.s.now a.sizes.now a.at).found _ _ (search rules) c.in_ok-next.ensures.says.1).0 in
    (search rules, rw c.in-Some.is at c.requires.before_in_bounds, w)

pub returns-then-is_after : goal.returns-then-is_after
returns-then-is_after c =
    let a = c.args in
    rw c.in-Some.is (record { says = rising_on a.s.now a.sizes.now (words_at a.s.now (length a.sizes.now) c.in-Some.p) a.at (search rules) c.in_ok-next.ensures.says (sym c.is_after.ensures ∙ c.if-is_after.true) })

pub returns-else-is_after : goal.returns-else-is_after
returns-else-is_after c =
    let a = c.args in
    rw c.in-Some.is (record { says = rising_not a.s.now a.sizes.now (words_at a.s.now (length a.sizes.now) c.in-Some.p) a.at (search rules) c.in_ok-next.ensures.says (sym c.is_after.ensures ∙ c.if-is_after.false) })
