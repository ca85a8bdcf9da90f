-- `call_join::same_sizes` meets its contract: the sizes of both are read behind D, and compared as slices.
use mathlib.Core.Path.{ap, ap₂, ◌∙◌}
use Prim.Native.Nat.{ℕ}
use Rattle.lists.specs.Order.{same}
use Rattle.fields.specs.Words.{words_at}
use Rattle.call_join.proofs.Outcomes.{same-pointwise}
use Rattle.call_join.proofs.same_sizes.Goals as goal

pub returns : goal.returns
returns c =
    let a = c.args in
    let x = c.read_words.ensures in
    let y = c.read_words-2.ensures ∙ ap (λ (n : ℕ). words_at a.second.now n 8) c.requires.sizes_len_bound.1 in
    (x, c.eq.ensures ∙ same-pointwise c.read_words.new.out c.read_words-2.new.out ∙ ap₂ same x y)
