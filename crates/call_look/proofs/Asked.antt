-- What an accepted archive answers to a question: its entries are ours, and what our entries answer is what the call tells.
use mathlib.Core.Path.{◌≡◌, sym, ap, ap₂, ◌∙◌}
use mathlib.Core.Bool.{true, false, false≢true}
use mathlib.Core.List.{List}
use Prim.Native.Nat.{ℕ}
use lib.Dec.{eqb}
use lib.ListN.{length}
use borrow.Author.Tests.{eqb-true, eqb-false}
use Rattle.std.specs.Prelude.{Option, Ok, Err}
use Rattle.lists.proofs.Tests.{cases, truth}
use Rattle.cube.specs.declared.Total.{Total}
use Rattle.cube.specs.Measure.{sums as sums-measure}
use Rattle.cube.specs.Codes.{plain}
use Rattle.cube.specs.Condensed.{Entry, ours, lookup}
use Rattle.rows.specs.Rows.{rows_of}
use Rattle.fields.specs.Words.{words_at}
use Rattle.fields.specs.WordsLaws.{length_words_at}
use Rattle.call_questions.specs.declared.Cell.{Cell}
use Rattle.call_questions.specs.Questions.{asks, looked}
use Rattle.call_questions.proofs.Pairs.{asks-length}
use Rattle.call_answers.specs.Calls.{entries_in, told, looks_up}
use Rattle.call_answers.proofs.Entries.{entries-required}
use Rattle.call_answers.proofs.Opened.{Opened}
use Rattle.call_ask.proofs.Opened.{opened_held}

module _ {s : List ℕ} {d n m : ℕ} {ws : List ℕ} (o : Opened s d n m ws) where
  abbrev entries : List (Entry Total)
  entries = ours (plain d) sums-measure (rows_of d n ws)

  entries-in : entries_in o.held ≡ entries
  entries-in =
      ap entries_in (opened_held o) ∙ entries-required o.held.sizes (rows_of d n ws)
      ∙ ap (λ (k : ℕ). ours (plain k) sums-measure (rows_of d n ws)) o.dims

  module _ (q : List ℕ) where
    pub look_stopped : false ≡ asks (words_at s d 8) q → Err 13 ≡ looks_up s q
    unfolding looks_up
    look_stopped h = let g = ap (λ (zs : List ℕ). asks zs q) o.sizes ∙ sym h in rw (o.read, g)

    module _ (h : true ≡ asks (words_at s d 8) q) where
      pub look-long : length q ≡ d
      look-long = cases (truth (eqb (length q) d))
          (λ e. eqb-true (length q) d e)
          (λ e. absurd (false≢true (sym (asks-length (words_at s d 8) q (λ g. eqb-false (length q) d e (g ∙ length_words_at s d 8))) ∙ sym h)))

      pub look_told : {r : Option Cell} → r ≡ looked (lookup (plain d) q entries) → Ok r ≡ looks_up s q
      unfolding looks_up
      look_told e =
          let g = ap (λ (zs : List ℕ). asks zs q) o.sizes ∙ sym h in
          rw (o.read, g) (ap Ok e
          ∙ ap₂ (λ (k : ℕ) (l : List (Entry Total)). told (lookup (plain k) q l)) (sym o.dims) (sym entries-in))
