-- C-19: an accepted archive asked through the window of dimension i and code k.
use mathlib.Core.Path.{◌≡◌}
use mathlib.Core.Bool.{true}
use mathlib.Core.List.{List, []}
use Prim.Native.Nat.{ℕ, ◌≤◌, ◌<◌}
use Rattle.fields_walk.specs.Parsed.{got}
use Rattle.fields_walk.specs.Limits.{Bytes}
use Rattle.rows_window.specs.Window.{at, seen, Agree}
use Rattle.archive_entries.specs.Layout.{Held}
use Rattle.archive_entries.specs.Reading.{read_archive, rows_in}
use Rattle.call_questions.specs.Questions.{asks}
use Rattle.call_answers.specs.Calls.{dims, looks_up}
use Rattle.call_window.specs.Windows.{window, asks_window, unnumbered_found}
use Rattle.call_window.proofs.Windows as windows

module _ (s : List ℕ) (a : Held) (f : Bytes s) (e : read_archive s ≡ got a []) (i k : ℕ) where
  -- The reply to every question, stops included, is that of the sizes and the base rows in the window: no other row is looked at.
  pub window-inside : (q : List ℕ) → asks_window s i k q ≡ window a.sizes i k (seen i k (rows_in a)) q
  window-inside = windows.window_of s a f e i k

  -- Where window and question pass, it is the answer of a look-up without the entry's number.
  pub window-looked : (q : List ℕ) → 1 ≤ i → i ≤ dims a → k < at i a.sizes → asks a.sizes q ≡ true → at i q ≡ k → asks_window s i k q ≡ unnumbered_found (looks_up s q)
  window-looked = windows.window-looked s a f e i k

  -- Two accepted archives of the same dimensions and sizes, which agree on all base rows in the window, give every question the same reply, stops included.
  pub window_same : (t : List ℕ) (b : Held) → Bytes t → read_archive t ≡ got b [] → a.sizes ≡ b.sizes → Agree i k (rows_in a) (rows_in b) → (q : List ℕ) → asks_window s i k q ≡ asks_window t i k q
  window_same = windows.window_same s a f e i k
