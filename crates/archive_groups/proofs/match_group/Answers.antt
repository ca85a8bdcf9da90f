-- `archive_groups::match_group` meets its contract: there are fewer bytes than the cell has, or three parts are compared, each behind the one before.
use mathlib.Core.Bool.{Bool, true}
use mathlib.Core.List.{List}
use mathlib.Core.Path.{◌≡◌, sym, ap, ◌∙◌}
use Prim.Native.Nat.{ℕ, ◌+◌, ◌*◌, ◌≤◌}
use native.Mathlib.Omega.{arith}
use lib.IntN.{ℤ}
use lib.ListN.{length, drop}
use mir.Syntax.{w64}
use Rattle.std.proofs.Common.{to_z-of_z, to_z, of_z, SFits}
use Rattle.std.specs.Prelude.{Err, Ok}
use Rattle.stops.specs.declared.Stop.TheVariants as Why
use Rattle.fields.specs.Words.{words_bytes}
use Rattle.fields_sums.specs.Twos.{sum_bytes}
use Rattle.fields.specs.Opening.{starts_with}
use Rattle.archive_entries.specs.Layout.{cell_bytes}
use Rattle.archive_entries.proofs.Lengths.{cell-length}
use Rattle.archive_compare.specs.Matched.{Matched}
use Rattle.archive_compare.specs.MatchedLaws.{matched_on, matched_none, matched_short, matched_told, matched_stop, matched_then}
use Rattle.archive_groups.specs.Masks.{masked}
use Rattle.archive_groups.proofs.Masks.{length-masked}
use Rattle.archive_groups.proofs.Shown.{shown-length}
use borrow.Author.Rules.{rules}
use Rattle.archive_groups.proofs.match_group.Goals as goal

module _ (s : List ℕ) (start : ℕ) (missing mine : List ℕ) where
  -- the codes stand there
  codes : {b : Bool} → start ≤ length s → b ≡ starts_with (drop start s) (words_bytes (masked missing mine)) → b ≡ true → Matched s start (words_bytes (masked missing mine)) (Ok (start + 4 * length mine))
  codes within is holds =
      matched_told (ap (λ (n : ℕ). Ok (start + n)) (shown-length missing mine)) (matched_on {xs = words_bytes (masked missing mine)} within (sym is ∙ holds))

-- what the test of the sum tells
sum_told : {b : Bool} {z : ℤ} (s : List ℕ) → SFits w64 z → b ≡ starts_with s (sum_bytes (to_z w64 (of_z w64 z))) → b ≡ starts_with s (sum_bytes z)
sum_told {z = z} s fits is = is ∙ ap (λ (z : ℤ). starts_with s (sum_bytes z)) (to_z-of_z {w = w64} {z = z} fits)

pub returns-then-s-start : goal.returns-then-s-start
returns-then-s-start c =
    let a = c.args in
    matched_short c.requires.1 (omega (arith, c.if-s-start.true, cell-length (length a.mine.now) (record { codes = masked a.missing.now a.mine.now; total = a.total }) (length-masked a.missing.now a.mine.now)))

pub returns-then-not-shown_is : goal.returns-then-not-shown_is
unfolding cell_bytes
returns-then-not-shown_is c =
    let a = c.args in
    matched_stop {xs = words_bytes (masked a.missing.now a.mine.now)} _ (matched_none c.requires.1 (sym c.shown_is.ensures ∙ c.if-not-shown_is.true))

pub returns-then-not-sum_is : goal.returns-then-not-sum_is
unfolding cell_bytes
returns-then-not-sum_is c =
    let a = c.args in
    let sums = sum_bytes a.total.sum in
    let shown = codes a.s.now a.start a.missing.now a.mine.now c.requires.1 c.shown_is.ensures c.if-not-shown_is.false in
    let sum = sum_told {z = a.total.sum} (drop (a.start + 4 * length a.mine.now) a.s.now) (search rules) c.sum_is.ensures in
    matched_then _ (Err Why.Entries) shown (matched_stop {xs = sums} _ (matched_none shown.meets.2 (sym sum ∙ c.if-not-sum_is.true)))

pub returns-then-not-word_is : goal.returns-then-not-word_is
unfolding cell_bytes
returns-then-not-word_is c =
    let a = c.args in
    let shown = codes a.s.now a.start a.missing.now a.mine.now c.requires.1 c.shown_is.ensures c.if-not-shown_is.false in
    let sum = sum_told {z = a.total.sum} (drop (a.start + 4 * length a.mine.now) a.s.now) (search rules) c.sum_is.ensures in
    let summed : Matched a.s.now (a.start + 4 * length a.mine.now) (sum_bytes a.total.sum) (Ok (a.start + 4 * length a.mine.now + 8)) = matched_on shown.meets.2 (sym sum ∙ c.if-not-sum_is.false) in
    matched_then _ (Err Why.Entries) shown (matched_then _ (Err Why.Entries) summed (matched_none summed.meets.2 (sym c.word_is.ensures ∙ c.if-not-word_is.true)))

pub returns : goal.returns
unfolding cell_bytes
returns c =
    let a = c.args in
    let shown = codes a.s.now a.start a.missing.now a.mine.now c.requires.1 c.shown_is.ensures c.if-not-shown_is.false in
    let sum = sum_told {z = a.total.sum} (drop (a.start + 4 * length a.mine.now) a.s.now) (search rules) c.sum_is.ensures in
    let summed : Matched a.s.now (a.start + 4 * length a.mine.now) (sum_bytes a.total.sum) (Ok (a.start + 4 * length a.mine.now + 8)) = matched_on shown.meets.2 (sym sum ∙ c.if-not-sum_is.false) in
    matched_then _ (Ok _) shown (matched_then _ (Ok _) summed (matched_on summed.meets.2 (sym c.word_is.ensures ∙ c.if-not-word_is.false)))
