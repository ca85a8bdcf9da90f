-- What the sections' answers say together: the ends of the walk over an archive (`entries.Walking`), by a reader's places.
use mathlib.Core.Path.{◌≡◌, refl, sym, ap, ◌∙◌}
use mathlib.Core.List.{List}
use Prim.Native.Nat.{ℕ, ◌+◌, ◌≤◌}
use native.Mathlib.Omega.{arith}
use lib.ListN.{length, drop}
use borrow.Author.Tests.{le-leb}
use Rattle.fields.specs.Words.{word_at, words_at}
use Rattle.fields.specs.WordsLaws.{length_words_at}
use Rattle.std.specs.Prelude.{Result, Ok, Err}
use Rattle.stops.specs.declared.Stop.{Stop}
use Rattle.stops.specs.Numbers.{number}
use Rattle.fields_walk.specs.Fields.{header, close}
use Rattle.fields_walk.specs.Walked.{Walked}
use Rattle.fields_walk.proofs.Steps.{walked_as}
use Rattle.archive_entries.specs.Layout.{CUBE}
use Rattle.archive_entries.specs.Reading.{bases, cells, walk_archive, archive_answer}
use Rattle.archive_entries.proofs.Entries.{bases-read}
use Rattle.archive_entries.proofs.Cells.{cells-read}
use Rattle.archive_entries.proofs.Walking.{answer, Opened, opened, header-stop, bases-stop, cells-stop, close-stop, entries-told}
use Rattle.archive_sections.specs.Sections.{word_there, bases_from, cells_from}
use Rattle.archive_sections.proofs.Ends.{bases_on, cells_on}

-- what a section's answer says, and a word, at a place
abbrev pub Head : List ℕ → ℕ → Result ℕ Stop → Type 0
Head s at w = Walked s (header CUBE (drop at s)) w

abbrev pub Base : List ℕ → ℕ → Result ℕ Stop → Type 0
Base s at w = Walked s (bases_from s at) w

abbrev pub Cell : List ℕ → ℕ → Result ℕ Stop → Type 0
Cell s at w = Walked s (cells_from s at) w

abbrev pub Close : List ℕ → ℕ → Result ℕ Stop → Type 0
Close s at w = Walked s (close s (drop at s)) w

abbrev pub Word : List ℕ → ℕ → ℕ → Type 0
Word s at x = x ≡ word_there s at

whole_word : (s : List ℕ) (at : ℕ) → at + 4 ≤ length s → word_there s at ≡ word_at s at
whole_word s at h = rw (le-leb (at + 4) (length s) h)

module _ (s : List ℕ) where
  pub header_halts : {n : Stop} → Walked s (header CUBE s) (Err n) → Err (number n) ≡ archive_answer (walk_archive s)
  header_halts h = header-stop s h.says

  module _ {p : ℕ} (h : Walked s (header CUBE s) (Ok p)) where
    front : Opened s (word_at s 4) p
    front = opened s h.says refl

    based : {w : Result ℕ Stop} → Walked s (bases_from s p) w → Walked s (bases (words_at s (word_at s 4) 8) (drop p s)) w
    based f = walked_as (sym (bases_on s p front.read)) f

    celled : {w : Result ℕ Stop} (k : ℕ) → Walked s (cells_from s k) w → Walked s (cells (word_at s 4) (drop k s)) w
    celled k g = walked_as (sym (cells_on s k front.read ∙ ap (λ (d : ℕ). cells d (drop k s)) (length_words_at s (word_at s 4) 8))) g

    pub bases_halts : {n : Stop} → Walked s (bases_from s p) (Err n) → Err (number n) ≡ archive_answer (walk_archive s)
    bases_halts f = bases-stop s front (based f).says

    module _ {k : ℕ} (f : Walked s (bases_from s p) (Ok k)) where
      pub cells_halts : {n : Stop} → Walked s (cells_from s k) (Err n) → Err (number n) ≡ archive_answer (walk_archive s)
      cells_halts g = cells-stop s front (based f).says (celled k g).says

      module _ {e : ℕ} (g : Walked s (cells_from s k) (Ok e)) where
        pub close_halts : {n : Stop} → Walked s (close s (drop e s)) (Err n) → Err (number n) ≡ archive_answer (walk_archive s)
        close_halts u = close-stop s front (based f).says (celled k g).says u.says

        pub counted : {n d b c : ℕ} → Walked s (close s (drop e s)) (Ok n) → d ≡ word_there s 4 → b ≡ word_there s p → c ≡ word_there s k → answer d b c ≡ archive_answer (walk_archive s)
        counted {n} {d} {b} {c} u x y z =
            let d' : d ≡ word_at s 4 = x ∙ whole_word s 4 (omega (arith, front.whole, front.some)) in
            let b' : b ≡ word_at s p = y ∙ whole_word s p (bases-read s _ p front.inside (based f).says.1).whole in
            let c' : c ≡ word_at s k = z ∙ whole_word s k (cells-read s _ k f.says.2 (celled k g).says.1).0 in
            ap (λ (d : ℕ). answer d b c) d' ∙ entries-told s front (based f).says (celled k g).says u.says.1 b' c'
