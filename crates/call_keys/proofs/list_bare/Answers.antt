-- `call_keys::list_bare` meets its contract: before each set the smallest sets so far of which no cell is shared stand in front of the list.
use mathlib.Core.Path.{sym, ◌∙◌}
use Prim.Native.Nat.{◌<◌}
use native.Mathlib.Omega.{arith}
use lib.ListN.{length-set}
use Rattle.lattice.proofs.Table.{set_read}
use Rattle.call_keys.proofs.Listing.{listing_start, listing-few, listing-done, listing-off, listing-held, listing_no, listing-room, listing-more}
use Rattle.call_keys.proofs.list_bare.Goals as goal
use Rattle.call_keys.proofs.list_bare.Goals.{Else-not-is_bare}

-- there is room for one more
room : (c : goal.Else-not-is_bare) → c.loop-set.n < 70
room c =
    let l = c.loop-set in
    listing-room c.args.dims c.args.used.now c.requires.0 c.requires.2 l.invariant c.loop-set-test.true (set_read _ c.in_order-set-items.ensures c.from-set.ensures) (omega (arith, c.if-all-set.false, c.sets_of-all.ensures)) (sym c.holds_listed.ensures ∙ c.if-holds_listed.false) (sym c.is_bare.ensures ∙ c.if-not-is_bare.false)

pub loop-set-init : goal.loop-set-init
loop-set-init c = listing_start c.args.dims c.args.used.now c.requires.0 c.requires.2 c.args.list.now

pub loop-set-preserved-then-all-set : goal.loop-set-preserved-then-all-set
loop-set-preserved-then-all-set c =
    let l = c.loop-set in
    listing-off c.args.dims c.args.used.now c.requires.0 c.requires.2 l.invariant c.loop-set-test.true (set_read _ c.in_order-set-items.ensures c.from-set.ensures) (omega (arith, c.if-all-set.true, c.sets_of-all.ensures))

pub loop-set-preserved-then-holds_listed : goal.loop-set-preserved-then-holds_listed
loop-set-preserved-then-holds_listed c =
    let l = c.loop-set in
    listing-held c.args.dims c.args.used.now c.requires.0 c.requires.2 l.invariant c.loop-set-test.true (set_read _ c.in_order-set-items.ensures c.from-set.ensures) (omega (arith, c.if-all-set.false, c.sets_of-all.ensures)) (sym c.holds_listed.ensures ∙ c.if-holds_listed.true)

pub loop-set-preserved-then-not-is_bare : goal.loop-set-preserved-then-not-is_bare
loop-set-preserved-then-not-is_bare c =
    let l = c.loop-set in
    listing_no c.args.dims c.args.used.now c.requires.0 c.requires.2 l.invariant c.loop-set-test.true (set_read _ c.in_order-set-items.ensures c.from-set.ensures) (omega (arith, c.if-all-set.false, c.sets_of-all.ensures)) (sym c.is_bare.ensures ∙ c.if-not-is_bare.true)

pub bounds-list-n : goal.bounds-list-n
bounds-list-n c = omega (arith, room (goal.at.bounds-list-n c).Else-not-is_bare, c.loop-set.auto.list, c.requires.3)

pub loop-set-preserved : goal.loop-set-preserved
loop-set-preserved c =
    let l = c.loop-set in
    listing-more c.args.dims c.args.used.now c.requires.0 c.requires.2 l.invariant c.loop-set-test.true (set_read _ c.in_order-set-items.ensures c.from-set.ensures) (omega (arith, c.if-all-set.false, c.sets_of-all.ensures)) (sym c.holds_listed.ensures ∙ c.if-holds_listed.false) (sym c.is_bare.ensures ∙ c.if-not-is_bare.false) (omega (arith, room (goal.at.loop-set-preserved c).Else-not-is_bare, l.auto.list, c.requires.3)) (length-set l.list l.n c.from-set.result)

pub returns : goal.returns
returns c =
    let m = c.loop-set.invariant in
    (listing-done c.args.dims c.args.used.now c.requires.0 c.requires.2 m c.loop-set-test.false, listing-few c.args.dims c.args.used.now c.requires.0 c.requires.2 m)
