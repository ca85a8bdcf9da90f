-- The words from a place on as text, each by the same text of a word, and how a loop writes them: the words of the bytes that are left are still to write.
use mathlib.Core.Path.{◌≡◌, refl}
use mathlib.Core.List.{List, ◌++◌, flat_map}
use Prim.Native.Nat.{ℕ, ◌+◌, ◌-◌, ◌*◌, ◌≤◌, ◌<◌}
use lib.ListN.{length, take, drop}
use borrow.Rule.Slice.PartMut.{mid_of, put_mid}
use Rattle.fields.specs.Words.{word_at, words_at, words}
use Rattle.fields.specs.WordsLaws.{words_none}
use Rattle.fields.proofs.Chunks.{words_part, words_chunk}
use Rattle.fields.specs.Written.{Wrote}
use Rattle.archive_cells.specs.Writing.{Writing}
use Rattle.archive_cells.specs.WritingLaws.{writing_none, writing_more, writing_room, writing_done}

module _ (text : ℕ → List ℕ) (s : List ℕ) (n at : ℕ) where
  -- the text of all words
  abbrev all : List ℕ
  all = flat_map text (words_at s n at)

  pub texts_none : {rest : List ℕ} (l : List ℕ) → at + 4 * n ≤ length s → rest ≡ take (4 * n) (drop at s) → Writing all (flat_map text (words rest)) l l 0
  texts_none l h e = rw (e, words_part s n at h) (writing_none all l)

  module _ (rest next x : List ℕ) {l m : List ℕ} {c done : ℕ} (w : Writing all (flat_map text (words rest)) l m done) (e : rest ≡ x ++ next) (k : length x ≡ 4) (v : c ≡ word_at x 0) where
    -- the word that the loop reads, and what is left behind it
    texts-next : flat_map text (words rest) ≡ text c ++ flat_map text (words next)
    unfolding flat_map
    texts-next = rw (e, words_chunk x next k, v) refl

    -- there is room for one more word where there is room for all
    pub texts_room : length all ≤ length l → done + length (text c) ≤ length m
    texts_room h = writing_room (text c) (flat_map text (words next)) (rw texts-next at w) h

    -- one more is written over the front of the rest
    pub texts_more : {r : List ℕ} {j : ℕ} → Wrote (text c) (mid_of done (length m - done) m) r j → Writing all (flat_map text (words next)) l (put_mid done (length m - done) m r) (done + j)
    texts_more u = writing_more (text c) (flat_map text (words next)) (rw texts-next at w) u

  pub texts_done : (rest : List ℕ) {l m : List ℕ} {done : ℕ} → Writing all (flat_map text (words rest)) l m done → length rest < 4 → Wrote all l m done
  unfolding flat_map
  texts_done rest w h = writing_done (rw (words_none rest h) at w)
