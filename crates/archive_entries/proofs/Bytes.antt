-- What an archive is made of are bytes: so are those of one that was read with all its stops, since it is the one that its base rows require.
use mathlib.Core.Path.{◌≡◌, sym, subst}
use mathlib.Core.List.Memᴰ
use mathlib.Core.List.{List, [], ◌∷◌, ◌++◌, flat_map}
use Prim.Native.Nat.{ℕ}
use native.Mathlib.Omega.{arith}
use lib.ListN.{length}
use Rattle.lists.proofs.Tests.{cases}
use Rattle.lists.proofs.Members.{flat_in}
use Rattle.lists.proofs.Order.{same-eq}
use Rattle.fields.specs.Words.{word_bytes, words_bytes}
use Rattle.fields_sums.specs.Twos.{low_of, high_of}
use Rattle.fields_walk.specs.Parsed.{got}
use Rattle.fields_walk.specs.Limits.{Bytes}
use Rattle.cube.specs.declared.Total.{Total}
use Rattle.cube.specs.Measure.{Row}
use Rattle.archive_entries.specs.Layout.{Based, Held, cell_bytes, base_bytes, layout, required, archive_bytes}
use Rattle.archive_entries.specs.Reading.{rows_in, read_archive}
use Rattle.archive_entries.proofs.Accepted.{read_forth}

append_are : {a b : List ℕ} → Bytes a → Bytes b → Bytes (a ++ b)
append_are {a} f g x m = cases (Memᴰ.append_cases a m) (f x) (g x)

word_are : (w : ℕ) → Bytes (word_bytes w)
word_are w x (Memᴰ.head e) = omega (arith, e)
word_are w x (Memᴰ.tail (Memᴰ.head e)) = omega (arith, e)
word_are w x (Memᴰ.tail (Memᴰ.tail (Memᴰ.head e))) = omega (arith, e)
word_are w x (Memᴰ.tail (Memᴰ.tail (Memᴰ.tail (Memᴰ.head e)))) = omega (arith, e)
word_are w x (Memᴰ.tail (Memᴰ.tail (Memᴰ.tail (Memᴰ.tail m)))) = absurd (Memᴰ.not-nil m)

words_are : (ws : List ℕ) → Bytes (words_bytes ws)
unfolding words_bytes
words_are [] x m = absurd (Memᴰ.not-nil m)
words_are (w ∷ ws) x m = append_are (word_are w) (words_are ws) x m

flat_are : {A : Type 0} (f : A → List ℕ) → ((y : A) → Bytes (f y)) → (l : List A) → Bytes (flat_map f l)
flat_are f h l x m = let r = flat_in f l m in h r.0 x r.2

cell_are : (r : Row Total) → Bytes (cell_bytes r)
unfolding cell_bytes
cell_are r =
    append_are (words_are r.codes) (append_are (append_are (word_are (low_of r.total.sum)) (word_are (high_of r.total.sum))) (word_are r.total.count))

base_are : (b : Based) → Bytes (base_bytes b)
unfolding base_bytes
base_are b = append_are (cell_are b.row) (append_are (word_are (length b.list)) (words_are b.list))

-- the opening is the word 0x45425543
layout_are : (a : Held) → Bytes (layout a)
unfolding layout
layout_are a =
    let front = append_are (word_are 0x45425543) (append_are (word_are (length a.sizes)) (words_are a.sizes)) in
    let bases = append_are (word_are (length a.bases)) (flat_are base_bytes base_are a.bases) in
    let cells = append_are (word_are (length a.cells)) (flat_are cell_bytes cell_are a.cells) in
    append_are (append_are front (append_are bases cells)) (word_are _)

pub read_bytes : (s : List ℕ) {a : Held} {rest : List ℕ} → read_archive s ≡ got a rest → Bytes s
unfolding archive_bytes
read_bytes s {a} e = subst Bytes (sym (same-eq s (archive_bytes a.sizes (rows_in a)) (read_forth s e).1)) (layout_are (required a.sizes (rows_in a)))
