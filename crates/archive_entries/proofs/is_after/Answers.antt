-- `archive_entries::is_after` meets its contract: both codes are read, and compared as slices. What `<=` says is handed over too, so that it is the order that settles the answer, and not the sign.
use mathlib.Core.Path.{sym}
use mathlib.Core.List.{List, [], ◌∷◌}
use Prim.Native.Nat.{ℕ}
use borrow.Author.Rules.{rules}
use Rattle.archive_entries.proofs.After.{earlier_lt, earlier_le}
use Rattle.archive_entries.proofs.Front.{front_is}
use Rattle.archive_entries.proofs.is_after.Goals as goal

abbrev zeros : List ℕ
zeros = 0 ∷ 0 ∷ 0 ∷ 0 ∷ 0 ∷ 0 ∷ 0 ∷ 0 ∷ []

pub returns : goal.returns
returns c =
    let h = c.requires.0 in
    let before = front_is _ zeros _ _ h c.read_words.ensures in
    let mine = front_is _ zeros _ _ h c.read_words-2.ensures in
    rw (sym before, sym mine) (search (rules, earlier_lt, earlier_le))
