-- An accepted archive asked through a window: the tests in their order, and a look-up without its entry's number.
use mathlib.Core.Path.{◌≡◌, refl, sym, ap, ap₂, ◌∙◌}
use mathlib.Core.Logic.{◌≢◌}
use mathlib.Core.Bool.{true, false, and-false}
use mathlib.Core.List.{List, []}
use Prim.Native.Nat.{ℕ, ◌-◌, ◌≤◌, ◌<◌}
use native.Mathlib.Omega.{arith}
use lib.Dec.{leb}
use lib.ListN.{length}
use borrow.Author.Tests.{lt-ltb, le-ltb, lt-leb, le-leb, eq-eqb, ne_eqb}
use Rattle.std.specs.Prelude.{Ok, Err}
use Rattle.lists.proofs.Members.{at_in}
use Rattle.fields_walk.specs.Parsed.{got}
use Rattle.fields_walk.specs.Limits.{Bytes}
use Rattle.cube.specs.declared.Total.{Total}
use Rattle.cube.specs.Measure.{Row, sums}
use Rattle.cube.specs.Codes.{ALL, plain}
use Rattle.cube.specs.Condensed.{Entry, Answer, no_record, found, ours, lookup}
use Rattle.cube.proofs.Sums.{sums-add}
use Rattle.rows_window.specs.Window.{at, Reply, seen, Agree, replied, unnumbered}
use Rattle.rows_window.proofs.Windows.{seen_same, lookup-seen}
use Rattle.archive_entries.specs.Layout.{Held, Limits}
use Rattle.archive_entries.specs.Reading.{read_archive, archive_answer, rows_in}
use Rattle.archive_entries.proofs.Accepted.{archive_forth}
use Rattle.archive_entries.proofs.Limits.{limits-base}
use Rattle.call_questions.specs.Questions.{asks}
use Rattle.call_answers.specs.Calls.{told, looks_up}
use Rattle.call_answers.proofs.Entries.{entries-ours}
use Rattle.call_ask.proofs.Outcomes.{refused}
use Rattle.call_window.specs.Windows.{shown, window, asks_window, unnumbered_found}

pub window-refused : (s : List ℕ) {n : ℕ} → archive_answer (read_archive s) ≡ Err n → (i k : ℕ) (q : List ℕ) → Err n ≡ asks_window s i k q
unfolding asks_window
window-refused s e i k q = rw (refused s e)

-- ---- the tests in their order, of sizes zs and rows in the window

module _ (zs : List ℕ) (rows : List (Row Total)) (i k : ℕ) (q : List ℕ) where
  pub window_zero : i ≡ 0 → window zs i k rows q ≡ Err 16
  unfolding window
  window_zero e = rw (lt-leb 1 i (omega (arith, e)))

  pub window-high : length zs < i → window zs i k rows q ≡ Err 16
  unfolding window
  window-high h = rw (lt-leb i (length zs) h, and-false (leb 1 i))

  module _ (one : 1 ≤ i) (low : i ≤ length zs) where
    pub window-code : at i zs ≤ k → window zs i k rows q ≡ Err 13
    unfolding window
    window-code h = rw (le-leb 1 i one, le-leb i (length zs) low, le-ltb k (at i zs) h)

    module _ (below : k < at i zs) where
      pub window_question : asks zs q ≡ false → window zs i k rows q ≡ Err 13
      unfolding window
      window_question h = rw (le-leb 1 i one, le-leb i (length zs) low, lt-ltb k (at i zs) below, h)

      module _ (fits : asks zs q ≡ true) where
        pub window_elsewhere : at i q ≢ k → window zs i k rows q ≡ Err 20
        unfolding window
        window_elsewhere n = rw (le-leb 1 i one, le-leb i (length zs) low, lt-ltb k (at i zs) below, fits, ne_eqb (at i q) k n)

        pub window_reply : at i q ≡ k → window zs i k rows q ≡ Ok (shown (replied (plain (length zs)) sums rows q))
        unfolding window
        window_reply e = rw (le-leb 1 i one, le-leb i (length zs) low, lt-ltb k (at i zs) below, fits, eq-eqb (at i q) k e)

-- ---- an accepted archive

shown-told : (r : Answer Total) → unnumbered_found (told r) ≡ Ok (shown (unnumbered r))
shown-told no_record = refl
shown-told (found n t) = refl

module _ (s : List ℕ) (a : Held) (f : Bytes s) (e : read_archive s ≡ got a []) (i k : ℕ) where
  abbrev d : ℕ
  d = length a.sizes

  limits : Limits a.sizes (rows_in a)
  limits = (archive_forth s a [] f e).0

  -- The reply is that of its sizes and its rows in the window.
  pub window_of : (q : List ℕ) → asks_window s i k q ≡ window a.sizes i k (seen i k (rows_in a)) q
  unfolding asks_window
  window_of q = rw e

  -- Where window and question pass, it is that of a look-up, without the entry's number.
  pub window-looked : (q : List ℕ) → 1 ≤ i → i ≤ d → k < at i a.sizes → asks a.sizes q ≡ true → at i q ≡ k → asks_window s i k q ≡ unnumbered_found (looks_up s q)
  unfolding looks_up
  window-looked q one low below fits here =
      let z : at i a.sizes ≤ 65535 = (limits.sized.each (at i a.sizes) (at_in 0 a.sizes (i - 1) (omega (arith, one, low)))).1 in
      let n : k ≢ ALL = λ g. omega (arith, g, below, z) in
      let same = lookup-seen sums d i k q here n sums-add one low (rows_in a) (limits-base a.sizes (rows_in a) limits) in
      window_of q ∙ window_reply a.sizes (seen i k (rows_in a)) i k q one low below fits here
      ∙ sym (rw (e, fits) (ap (λ (l : List (Entry Total)). unnumbered_found (told (lookup (plain d) q l))) (entries-ours s a f e) ∙ shown-told (lookup (plain d) q (ours (plain d) sums (rows_in a))) ∙ ap (λ (r : Reply Total). Ok (shown r)) same))

  -- Two archives of the same sizes that agree on the base rows in the window reply the same to every question, stops included.
  pub window_same : (t : List ℕ) (b : Held) → Bytes t → read_archive t ≡ got b [] → a.sizes ≡ b.sizes → Agree i k (rows_in a) (rows_in b)
      → (q : List ℕ) → asks_window s i k q ≡ asks_window t i k q
  unfolding asks_window
  window_same t b g h z w q =
      let same = seen_same (rows_in a) (rows_in b) i k limits.rising (archive_forth t b [] g h).0.rising w in
      rw (e, h) (ap₂ (λ (zs : List ℕ) (rows : List (Row Total)). window zs i k rows q) z same)
