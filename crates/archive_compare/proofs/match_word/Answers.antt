-- `archive_compare::match_word` meets its contract: there are fewer than four bytes, or the word stands there, or it does not.
use mathlib.Core.Path.{sym, ◌∙◌}
use native.Mathlib.Omega.{arith}
use Rattle.archive_compare.specs.MatchedLaws.{matched_on, matched_none, matched_short}
use Rattle.archive_compare.proofs.match_word.Goals as goal

pub returns-then-s-at-lt4 : goal.returns-then-s-at-lt4
returns-then-s-at-lt4 c = matched_short c.requires (omega (arith, c.if-s-at-lt4.true))

pub returns-then-word_is : goal.returns-then-word_is
returns-then-word_is c = matched_on c.requires (sym c.word_is.ensures ∙ c.if-word_is.true)

pub returns : goal.returns
returns c = matched_none c.requires (sym c.word_is.ensures ∙ c.if-word_is.false)
