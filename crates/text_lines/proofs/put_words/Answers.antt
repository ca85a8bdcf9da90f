-- `text_lines::put_words` meets its contract. The invariant: the words of the bytes that are left are to write.
use mathlib.Core.Path.{◌≡◌}
use Prim.Native.Nat.{◌+◌, ◌*◌, ◌-◌, ◌≤◌}
use native.Mathlib.Omega.{arith}
use lib.ListN.{length, take, drop}
use Rattle.text_lines.proofs.Words.{texts_none, texts_room, texts_more, texts_done}
use borrow.Author.Rules.{rules}
use Rattle.text_lines.proofs.put_words.Given.{Over}
use Rattle.text_lines.proofs.put_words.Goals as goal
use Rattle.text_lines.proofs.put_words.Goals.{After-word_at-word}

-- there is room for the word that was read
room : (g : Over) (c : goal.After-word_at-word g) → c.loop-bytes.done + length (g.T.Text.text c.word_at-word.result) ≤ length c.loop-bytes.out
room g c =
    let a = c.args in
    let v = c.loop-bytes.invariant in
    let step = c.in-Some.ensures.steps in
    texts_room g.T.Text.text a.s.now a.n a.at _ _ _ v.1 step.1.0 (omega arith) c.word_at-word.ensures c.requires.at_in_bounds

pub loop-bytes-init : goal.loop-bytes-init
loop-bytes-init g c =
    let a = c.args in
    let k : a.at + 4 * a.n - a.at ≡ 4 * a.n = omega arith in
    let e : c.into_iter-bytes-iterator.result.rest.now ≡ take (4 * a.n) (drop a.at a.s.now) = search (rules, k) in
    (search rules, texts_none g.T.Text.text a.s.now a.n a.at _ c.requires.n_in_bounds e)

pub put-done-requires : goal.put-done-requires
put-done-requires g c = search (rules, room g (goal.at.put-done-requires g c).After-word_at-word)

pub overflow_add-done : goal.overflow_add-done
overflow_add-done g c = search (rules, room g (goal.at.overflow_add-done g c).After-word_at-word)

pub loop-bytes-preserved : goal.loop-bytes-preserved
loop-bytes-preserved g c =
    let a = c.args in
    let v = c.loop-bytes.invariant in
    let step = c.in-Some.ensures.steps in
    (search rules, texts_more g.T.Text.text a.s.now a.n a.at _ _ _ v.1 step.1.0 (omega arith) c.word_at-word.ensures c.put-done.ensures)

pub returns : goal.returns
returns g c = let a = c.args in texts_done g.T.Text.text a.s.now a.n a.at _ c.loop-bytes.invariant.1 (omega (arith, c.in-None.ensures.steps.1.0))
