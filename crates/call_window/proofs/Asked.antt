-- What the call answers for an archive whose base rows an array holds: by its sizes, which stand in its bytes.
use mathlib.Core.Path.{◌≡◌, sym, ap, ◌∙◌}
use mathlib.Core.Logic.{◌≢◌}
use mathlib.Core.Bool.{true, false}
use mathlib.Core.List.{List}
use Prim.Native.Nat.{ℕ, ◌+◌, ◌-◌, ◌*◌, ◌≤◌, ◌<◌}
use native.Mathlib.Omega.{arith}
use lib.ListN.{length}
use Rattle.std.specs.Prelude.{Option, Some, None, Result, Ok, Err, MatchOption, IsSomeAnd}
use Rattle.fields.specs.Words.{word_at, words_at}
use Rattle.fields.specs.WordsLaws.{get_d_words_at}
use Rattle.cube.specs.declared.Total.{Total}
use Rattle.cube.specs.Measure.{Row}
use Rattle.rows_window.specs.Window.{at, seen}
use Rattle.archive_entries.specs.Reading.{rows_in}
use Rattle.call_questions.specs.Questions.{asks}
use Rattle.call_questions.specs.declared.Cell.{Cell}
use Rattle.call_answers.specs.Calls.{looks_up}
use Rattle.call_answers.proofs.Opened.{Opened}
use Rattle.call_window.specs.Windows.{window, asks_window, unnumbered_found}
use Rattle.call_window.proofs.Windows.{window_zero, window-high, window-code, window_question, window_elsewhere, window_of, window-looked}

module _ {s : List ℕ} {d n m : ℕ} {ws : List ℕ} (o : Opened s d n m ws) (i k : ℕ) (q : List ℕ) where
  abbrev zs : List ℕ
  zs = o.held.sizes

  abbrev inside : List (Row Total)
  inside = seen i k (rows_in o.held)

  reply : {r : Result (Option Total) ℕ} → window zs i k inside q ≡ r → r ≡ asks_window s i k q
  reply e = sym (window_of s o.held o.are o.read i k q ∙ e)

  pub no_dimension : i ≡ 0 → Err 16 ≡ asks_window s i k q
  no_dimension e = reply (window_zero zs inside i k q e)

  pub high-dimension : d < i → Err 16 ≡ asks_window s i k q
  high-dimension h = reply (window-high zs inside i k q (omega (arith, h, o.dims)))

  -- the size w of the window's dimension
  module _ (some : i ≢ 0) (low : i ≤ d) {w : ℕ} (e : w ≡ word_at s (8 + 4 * (i - 1))) where
    one : 1 ≤ i
    one = omega (arith, some)

    few : i ≤ length zs
    few = omega (arith, low, o.dims)

    size : at i zs ≡ w
    size = ap (at i) o.sizes ∙ get_d_words_at s d 8 (i - 1) (omega (arith, some, low)) ∙ sym e

    pub no_code : w ≤ k → Err 13 ≡ asks_window s i k q
    no_code h = reply (window-code zs inside i k q one few (omega (arith, h, size)))

    module _ (h : k < w) where
      below : k < at i zs
      below = omega (arith, h, size)

      pub no_question : false ≡ asks (words_at s d 8) q → Err 13 ≡ asks_window s i k q
      no_question g = reply (window_question zs inside i k q one few below (ap (λ (l : List ℕ). asks l q) o.sizes ∙ sym g))

      module _ (g : true ≡ asks (words_at s d 8) q) where
        fits : asks zs q ≡ true
        fits = ap (λ (l : List ℕ). asks l q) o.sizes ∙ sym g

        pub other-code : at i q ≢ k → Err 20 ≡ asks_window s i k q
        other-code f = reply (window_elsewhere zs inside i k q one few below fits f)

        pub looked_through : at i q ≡ k → {f : Result (Option Cell) ℕ} → f ≡ looks_up s q → unnumbered_found f ≡ asks_window s i k q
        looked_through here f = ap unnumbered_found f ∙ sym (window-looked s o.held o.are o.read i k q one few below fits here)

-- a look-up's cell, if there is one, without its entry's number
pub without_entry : (o : Option Cell) {r : Option Total} {P : Cell → Total → Type 0} → ((x : Cell) (y : Total) → P x y → y ≡ record { sum = x.sum; count = x.count })
    → MatchOption o (r ≡ None) (λ x. IsSomeAnd r (P x)) → Ok r ≡ unnumbered_found (Ok o)
without_entry None f h = ap Ok h
without_entry (Some x) {r = None} f h = absurd h
without_entry (Some x) {r = Some y} f h = ap (λ (t : Total). Ok (Some t)) (f x y h)
