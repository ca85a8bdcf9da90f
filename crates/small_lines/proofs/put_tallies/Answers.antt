-- `small_lines::put_tallies` meets its contract. The invariant: the tallies from n entries on are left to write.
use native.Mathlib.Omega.{arith}
use Rattle.small_lines.proofs.Texts.{texts_none, texts_skip, texts_room, texts_more, texts_done}
use borrow.Author.Rules.{rules}
use Rattle.small_lines.proofs.put_tallies.Goals as goal

pub loop-n-init : goal.loop-n-init
loop-n-init c = (search rules, texts_none c.args.tallies.now c.args.out.now)

pub loop-n-preserved-then-tally-eq0 : goal.loop-n-preserved-then-tally-eq0
loop-n-preserved-then-tally-eq0 c = let l = c.loop-n in (search rules, texts_skip c.args.tallies.now l.invariant.1 (search rules) (omega arith))

pub put_pair-at-requires : goal.put_pair-at-requires
put_pair-at-requires c = search (rules, texts_room c.args.tallies.now c.loop-n.invariant.1 (search rules) (omega arith) c.requires)

pub overflow_add-at : goal.overflow_add-at
overflow_add-at c = search (rules, texts_room c.args.tallies.now c.loop-n.invariant.1 (search rules) (omega arith) c.requires)

pub loop-n-preserved : goal.loop-n-preserved
loop-n-preserved c = let l = c.loop-n in (search rules, texts_more c.args.tallies.now l.invariant.1 (search rules) (omega arith) (rw c.from.ensures at c.put_pair-at.ensures))

pub returns : goal.returns
returns c = let l = c.loop-n in texts_done c.args.tallies.now l.invariant.1 (search rules)
