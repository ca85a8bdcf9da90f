-- `archive_entries::check_entry` meets its contract: the codes, the sum and count, and the list, one behind the other.
use borrow.Author.Rules.{rules}
use lib.ListN.{length, drop}
use Rattle.archive_entries.specs.Places.{codes_before}
use Rattle.stops.proofs.Handed.{handed}
use Rattle.archive_entries.proofs.Entries.{entry-off, entry-ended, entry_on}
use Rattle.archive_entries.proofs.check_entry.Goals as goal

pub check_amount-requires : goal.check_amount-requires
check_amount-requires c = (search rules, c.in_ok-q.ensures.says.2)

pub check_list-requires : goal.check_list-requires
check_list-requires c = c.in_ok-next.ensures.says.2

pub returns-in_err-q : goal.returns-in_err-q
returns-in_err-q c =
    let a = c.args in
    rw (handed c.from_residual.result c.from_residual.ensures.1) (record { says = entry-off a.sizes.now (codes_before a.s.now (length a.sizes.now) a.before) a.total (drop a.at a.s.now) c.in_err-q.ensures.says })

pub returns-in_err-next : goal.returns-in_err-next
returns-in_err-next c =
    let a = c.args in
    let f = c.in_ok-q.ensures.says in
    rw (handed c.from_residual-in_err-next.result c.from_residual-in_err-next.ensures.1) (record { says = entry-ended a.sizes.now (codes_before a.s.now (length a.sizes.now) a.before) a.total (drop a.at a.s.now) f.1 c.in_err-next.ensures.says })

pub returns : goal.returns
returns c =
    let a = c.args in
    let f = c.in_ok-q.ensures.says in
    let g = c.in_ok-next.ensures.says in
    entry_on a.sizes.now (codes_before a.s.now (length a.sizes.now) a.before) a.total (drop a.at a.s.now) f.1 g.1 c.check_list.ensures
