-- Edition one is what archive_entries has: the same bytes, and the same reading, with sums and counts alone.
use mathlib.Core.Path.{◌≡◌, refl, sym, ap, ap₂, ◌∙◌, subst}
use mathlib.Core.List.Memᴰ
use mathlib.Core.List.{List, [], ◌∷◌, ◌++◌, map, flat_map, map-map, map-id}
use Prim.Native.Nat.{ℕ, zero, suc, ◌+◌, ◌*◌, ◌^◌, ◌≤◌, ◌<◌}
use native.Mathlib.Omega.{arith}
use lib.Dec.{ltb}
use lib.IntN.{ℤ}
use lib.ListN.{length, take, drop, length-map, length-drop}
use lib.Seq.{take_at, drop_at, drop-drop}
use Rattle.std.proofs.lemmas.List.{take-append-drop}
use borrow.Author.Tests.{ltb-true, ltb-false}
use Rattle.lists.specs.Lists.{◌∈◌}
use Rattle.lists.specs.Order.{Rising, same, earlier}
use Rattle.lists.proofs.Members.{map_same}
use Rattle.lists.proofs.Tests.{cases, truth}
use Rattle.fields.specs.Words.{word_at, word_bytes, words_bytes}
use Rattle.fields.specs.WordsLaws.{words_bytes_append, word_at_drop}
use Rattle.fields_sums.specs.Twos.{bits_of, low_of, high_of, sum_of, sum_at, sum_bytes}
use Rattle.fields_sums.specs.TwosLaws.{bits_signed}
use Rattle.fields_check.specs.Check.{checked}
use Rattle.fields_walk.specs.Parsed.{Parsed, stop, got, and_then, stop_unless, consed, many}
use Rattle.fields_walk.specs.Fields.{word, sum, field, header, header_bytes, close}
use Rattle.fields_walk.proofs.Steps.{then_on, then_off, then_assoc, room-short, room_whole}
use Rattle.fields_walk.proofs.Many.{many-length}
use Rattle.cube.specs.declared.Total.{Total}
use Rattle.cube.specs.declared.Figures.{Figures}
use Rattle.cube.specs.Measure.{sums, Row, codes_of, carried}
use Rattle.cube.specs.Extremes.{figures, converted, converts}
use Rattle.cube.specs.Bounds.{most, count_of}
use Rattle.cube.specs.Codes.{plain}
use Rattle.cube.specs.Cube.{filled}
use Rattle.cube.specs.Condensed.{listed, normals}
use Rattle.cube.proofs.Carrying.{codes-carried, total-carried}
use Rattle.cube.proofs.Spans.{sums_carry}
use Rattle.rows.specs.Rows.{total_in, row_of}
use Rattle.archive_entries.specs.Layout.{CUBE, cell_bytes, section, Based as BasedSums, base_bytes as base_sums, layout as layout_sums, based as based_sums, required as required_sums, archive_bytes as archive_sums, Limits as LimitsSums}
use Rattle.archive_entries.specs.Reading.{rising, amount, cell, list as list_sums, entry as entry_sums, entries as entries_sums, bases as bases_sums, cells as cells_sums, walk_archive, rows_in as rows_sums, judged as judged_sums, read_archive}
use Rattle.archive_entries.proofs.Walking.{closed, celled as celled_sums}
use Rattle.archive_editions.specs.Format.{one}
use Rattle.archive_editions.specs.Layout.{sums_in, Based, Held, cell_words, base_bytes, based, celled, layout, required, archive_bytes, Fair, Limits}
use Rattle.archive_editions.specs.Reading.{extremes, list, entry, entries, bases, cells, walk, rows_in, judged, read}
use Rattle.archive_editions.specs.Sums.{bare, bared, told, mapped}
use Rattle.archive_editions.proofs.Editions.{kept-one}
use Rattle.archive_editions.proofs.Formats.{Words, one_headed}
use Rattle.archive_editions.proofs.Walkable.{Walkable}
use Rattle.archive_editions.proofs.Limits.{sums_limits}
use Rattle.archive_editions.proofs.Mapped.{mapped_then, mapped_on, mapped_test, mapped_cons, mapped_many, many_both}

-- ---- the bytes

cell-same : (r : Row Figures) → words_bytes (cell_words 0 r) ≡ cell_bytes (carried (λ f. f.sums) r)
unfolding cell_bytes words_bytes
cell-same r = words_bytes_append r.codes _

base-same : (b : Based) → base_bytes 0 b ≡ base_sums (bare b)
unfolding base_bytes base_sums
base-same b = rw (cell-same b.row)

-- things whose bytes are the same, one by one
each_same : {A B C : Type 0} (f : A → List ℕ) (g : B → List ℕ) (u : C → A) (v : C → B) (xs : List C) → ((x : C) → x ∈ xs → f (u x) ≡ g (v x)) → section f (map u xs) ≡ section g (map v xs)
unfolding flat_map
each_same {A} {B} {C} f g u v xs h = rw (length-map xs u, length-map xs v) (ap (λ (bs : List ℕ). word_bytes (length xs) ++ bs) (go xs h))
  where
    go : (xs : List C) → ((x : C) → x ∈ xs → f (u x) ≡ g (v x)) → flat_map f (map u xs) ≡ flat_map g (map v xs)
    go [] h = refl
    go (x ∷ xs) h = ap₂ ◌++◌ (h x (Memᴰ.head refl)) (go xs (λ y m. h y (Memᴰ.tail m)))

-- The archive of edition one is that of the rows' sums and counts.
pub archive_one : (zs : List ℕ) (rows : List (Row Figures)) → archive_bytes one zs rows ≡ archive_sums zs (sums_in rows)
unfolding archive_bytes archive_sums layout layout_sums required required_sums
archive_one zs rows = ap₂ (λ (bs cs : List ℕ). checked (header_bytes CUBE zs ++ (bs ++ cs))) bases cells
  where
    base : (r : Row Figures) → base_bytes 0 (based (plain (length zs)) rows r) ≡ base_sums (based_sums (length zs) (sums_in rows) (carried (λ f. f.sums) r))
    base r = base-same (based (plain (length zs)) rows r)
        ∙ ap (λ (xs : List (List ℕ)). base_sums (record { row = carried (λ f. f.sums) r; list = listed (plain (length zs)) xs r.codes })) (sym (codes-carried (λ f. f.sums) rows))

    bases : section (base_bytes 0) (map (based (plain (length zs)) rows) rows) ≡ section base_sums (map (based_sums (length zs) (sums_in rows)) (sums_in rows))
    bases = each_same (base_bytes 0) base_sums (based (plain (length zs)) rows) (λ r. based_sums (length zs) (sums_in rows) (carried (λ f. f.sums) r)) rows (λ r m. base r)
        ∙ ap (section base_sums) (sym (map-map (based_sums (length zs) (sums_in rows)) (carried (λ f. f.sums)) rows))

    cell : (c : List ℕ) → words_bytes (celled (plain (length zs)) 0 rows c) ≡ cell_bytes (filled (plain (length zs)) sums (sums_in rows) c)
    cell c = cell-same (filled (plain (length zs)) figures rows c)
        ∙ ap (λ (t : Total). cell_bytes (record { codes = c; total = t })) (total-carried (λ f. f.sums) sums_carry (plain (length zs)) rows c)

    cells : section words_bytes (map (celled (plain (length zs)) 0 rows) (normals (plain (length zs)) (codes_of rows)))
        ≡ section cell_bytes (map (filled (plain (length zs)) sums (sums_in rows)) (normals (plain (length zs)) (codes_of (sums_in rows))))
    cells = each_same words_bytes cell_bytes (celled (plain (length zs)) 0 rows) (filled (plain (length zs)) sums (sums_in rows)) (normals (plain (length zs)) (codes_of rows)) (λ c m. cell c)
        ∙ ap (λ (xs : List (List ℕ)). section cell_bytes (map (filled (plain (length zs)) sums (sums_in rows)) (normals (plain (length zs)) xs))) (sym (codes-carried (λ f. f.sums) rows))

-- the words of a normal entry as a row
three-words : (ws : List ℕ) → Words 3 ws → words_bytes ws ≡ sum_bytes (total_in ws).sum ++ word_bytes (total_in ws).count
unfolding words_bytes
three-words [] w = absurd (omega (arith, w.0))
three-words (a ∷ []) w = absurd (omega (arith, w.0))
three-words (a ∷ b ∷ []) w = absurd (omega (arith, w.0))
three-words (a ∷ b ∷ c ∷ []) w =
    let p : a < 2 ^ 32 = w.1 a (Memᴰ.head refl) in
    let q : b < 2 ^ 32 = w.1 b (Memᴰ.tail (Memᴰ.head refl)) in
    let e : bits_of 64 (sum_of a b) ≡ a + 2 ^ 32 * b = bits_signed 64 (a + 2 ^ 32 * b) (omega arith) in
    let low : low_of (sum_of a b) ≡ a = omega (arith, e) in
    let high : high_of (sum_of a b) ≡ b = omega (arith, e) in
    rw (low, high)
three-words (a ∷ b ∷ c ∷ e ∷ ws) w = absurd (omega (arith, w.0))

words-cell : (d : ℕ) (ws : List ℕ) → Words (d + 3 + 0) ws → words_bytes ws ≡ cell_bytes (row_of d ws)
unfolding cell_bytes
words-cell d ws w =
    let e : take d ws ++ drop d ws ≡ ws = take-append-drop d ws in
    let n : length (drop d ws) ≡ 3 = omega (arith, length-drop d ws, w.0) in
    let t = three-words (drop d ws) (n, λ v m. w.1 v (subst (λ (l : List ℕ). v ∈ l) e (Memᴰ.append_right (take d ws) m))) in
    ap words_bytes (sym e) ∙ words_bytes_append (take d ws) (drop d ws) ∙ ap (λ (l : List ℕ). words_bytes (take d ws) ++ l) t

-- So is the layout, of whatever the walk passes.
pub layout_one : (a : Held (List ℕ)) → Walkable one a → layout one a ≡ layout_sums (bared a)
unfolding layout layout_sums
layout_one a w =
    ap₂ (λ (bs cs : List ℕ). checked (header_bytes CUBE a.header ++ (bs ++ cs)))
    (ap (section (base_bytes 0)) (sym (map-id a.bases)) ∙ each_same (base_bytes 0) base_sums (λ b. b) bare a.bases (λ b m. base-same b))
    (ap (section words_bytes) (sym (map-id a.cells)) ∙ each_same words_bytes cell_bytes (λ c. c) (row_of (length a.header)) a.cells (λ c m. words-cell (length a.header) c (w.each c m)))

-- ---- the reading

entry-same : (zs x : List ℕ) (before : ℕ) (l : List ℕ) → mapped bare (entry one zs x before l) ≡ entry_sums zs x before l
unfolding entry entry_sums extremes many list list_sums
entry-same zs x before l =
    mapped_on bare (rising zs x l) _ _ (λ y rest. mapped_on bare (amount before rest) _ _ (λ t rest'. mapped_on bare (list_sums rest') _ _ (λ ss rest''. refl)))

entries-same : (zs : List ℕ) (n : ℕ) (x : List ℕ) (before : ℕ) (l : List ℕ) → mapped (map bare) (entries one zs n x before l) ≡ entries_sums zs n x before l
unfolding entries entries_sums
entries-same zs zero x before l = refl
entries-same zs (suc n) x before l =
    mapped_cons bare (entry one zs x before l) (λ b. entries one zs n b.row.codes (before + b.row.total.sums.count)) (λ b. entries_sums zs n b.row.codes (before + b.row.total.count))
    (λ b rest. entries-same zs n b.row.codes (before + b.row.total.sums.count) rest)
    ∙ ap (λ (p : Parsed BasedSums). consed p (λ b. entries_sums zs n b.row.codes (before + b.row.total.count))) (entry-same zs x before l)

bases-same : (zs l : List ℕ) → mapped (map bare) (bases one zs l) ≡ bases_sums zs l
unfolding bases bases_sums
bases-same zs l = mapped_on (map bare) (field 0 1025 5 l) _ _ (λ n rest. entries-same zs n [] 0 rest)

-- two words are a sum
word_here : (l : List ℕ) → 4 ≤ length l → word l ≡ got (word_at l 0) (drop 4 l)
unfolding word
word_here l h = then_on (λ u rest. got (word_at l 0) rest) (room_whole 4 l h)

word_short : (l : List ℕ) → length l < 4 → word l ≡ stop 2
unfolding word
word_short l h = then_off (λ u rest. got (word_at l 0) rest) (room-short 4 l h)

sum-words : (l : List ℕ) → sum l ≡ and_then (word l) (λ a rest. and_then (word rest) (λ b rest'. got (sum_of a b) rest'))
unfolding sum sum_at
sum-words l = cases (truth (ltb (length l) 4))
    (λ e. let h = ltb-true (length l) 4 e in
    then_off (λ u rest. got (sum_of (word_at l 0) (word_at l (0 + 4))) rest) (room-short 8 l (omega (arith, h))) ∙ sym (then_off _ (word_short l h)))
    (λ e. let h = ltb-false (length l) 4 e in cases (truth (ltb (length l) 8))
    (λ f. let k = ltb-true (length l) 8 f in
    then_off (λ u rest. got (sum_of (word_at l 0) (word_at l (0 + 4))) rest) (room-short 8 l k)
    ∙ sym (then_on _ (word_here l h) ∙ then_off _ (word_short (drop 4 l) (rw length-drop (omega (arith, h, k))))))
    (λ f. let k = ltb-false (length l) 8 f in
    then_on (λ u rest. got (sum_of (word_at l 0) (word_at l (0 + 4))) rest) (room_whole 8 l k)
    ∙ sym (then_on _ (word_here l h) ∙ then_on _ (word_here (drop 4 l) (rw length-drop (omega (arith, k)))) ∙ rw (word_at_drop, drop-drop))))

-- three words are a sum and a count
three : (l : List ℕ) → mapped total_in (many 3 word l) ≡ and_then (sum l) (λ z rest. and_then (word rest) (λ n rest'. got (record { sum = z; count = n }) rest'))
unfolding many
three l = first (word l) ∙ ap (λ (p : Parsed ℤ). and_then p (λ z rest. and_then (word rest) (λ n rest'. got (record { sum = z; count = n }) rest'))) (sym (sum-words l))
  where
    third : (a b : ℕ) (p : Parsed ℕ) → mapped total_in (and_then (and_then (consed p (λ c. got [])) (λ ws rest. got (b ∷ ws) rest)) (λ ws rest. got (a ∷ ws) rest))
        ≡ and_then p (λ n rest. got (record { sum = sum_of a b; count = n }) rest)
    third a b (stop n) = refl
    third a b (got c rest) = refl

    second : (a : ℕ) (p : Parsed ℕ) → mapped total_in (and_then (consed p (λ b l. consed (word l) (λ c. got []))) (λ ws rest. got (a ∷ ws) rest))
        ≡ and_then (and_then p (λ b rest. got (sum_of a b) rest)) (λ z rest. and_then (word rest) (λ n rest'. got (record { sum = z; count = n }) rest'))
    second a (stop n) = refl
    second a (got b rest) = third a b (word rest)

    first : (p : Parsed ℕ) → mapped total_in (consed p (λ a l. consed (word l) (λ b l. consed (word l) (λ c. got []))))
        ≡ and_then (and_then p (λ a rest. and_then (word rest) (λ b rest'. got (sum_of a b) rest'))) (λ z rest. and_then (word rest) (λ n rest'. got (record { sum = z; count = n }) rest'))
    first (stop n) = refl
    first (got a rest) = second a (word rest)

abbrev total : ℤ → ℕ → Total
total z n = record { sum = z; count = n }

abbrev row : List ℕ → Total → Row Total
row x t = record { codes = x; total = t }

-- the words of a normal entry are its codes, a sum and a count
entry-words : (d : ℕ) (l : List ℕ) → mapped (row_of d) (many (d + 3) word l) ≡ cell d l
unfolding cell
entry-words d l = ap (mapped (row_of d)) (many_both word d 3 l) ∙ go (many d word l) refl
  where
    cut : (xs : List ℕ) → length xs ≡ d → (p : Parsed (List ℕ)) → mapped (row_of d) (and_then p (λ ys rest. got (xs ++ ys) rest)) ≡ and_then (mapped total_in p) (λ t rest. got (row xs t) rest)
    cut xs n (stop k) = refl
    cut xs n (got ys rest) = rw (take_at xs ys d n, drop_at xs ys d n)

    deep : (xs : List ℕ) (z : ℤ) (p : Parsed ℕ) → and_then (and_then p (λ n rest. got (total z n) rest)) (λ t rest. got (row xs t) rest) ≡ and_then p (λ n rest. got (row xs (total z n)) rest)
    deep xs z (stop n) = refl
    deep xs z (got n rest) = refl

    last : (xs : List ℕ) (p : Parsed ℤ) → and_then p (λ z rest. and_then (and_then (word rest) (λ n rest'. got (total z n) rest')) (λ t rest'. got (row xs t) rest'))
        ≡ and_then p (λ z rest. and_then (word rest) (λ n rest'. got (row xs (total z n)) rest'))
    last xs (stop n) = refl
    last xs (got z rest) = deep xs z (word rest)

    go : (p : Parsed (List ℕ)) → many d word l ≡ p → mapped (row_of d) (and_then p (λ xs rest. and_then (many 3 word rest) (λ ys rest'. got (xs ++ ys) rest')))
        ≡ and_then p (λ x rest. and_then (sum rest) (λ z rest'. and_then (word rest') (λ n rest''. got (row x (total z n)) rest'')))
    go (stop n) e = refl
    go (got xs rest) e =
        cut xs (many-length word d l e) (many 3 word rest)
        ∙ ap (λ (p : Parsed Total). and_then p (λ t rest'. got (row xs t) rest')) (three rest)
        ∙ then_assoc (sum rest) (λ z rest'. and_then (word rest') (λ n rest''. got (total z n) rest'')) (λ t rest'. got (row xs t) rest')
        ∙ last xs (sum rest)

cells-same : (zs l : List ℕ) → mapped (map (row_of (length zs))) (cells one zs l) ≡ cells_sums (length zs) l
unfolding cells cells_sums
cells-same zs l = mapped_on (map (row_of (length zs))) (word l) _ _ (λ n rest. mapped_many (row_of (length zs)) (many (length zs + 3 + 0) word) (cell (length zs)) each n rest)
  where
    each : (l : List ℕ) → mapped (row_of (length zs)) (many (length zs + 3 + 0) word l) ≡ cell (length zs) l
    each l = let e : length zs + 3 + 0 ≡ length zs + 3 = omega arith in ap (λ (k : ℕ). mapped (row_of (length zs)) (many k word l)) e ∙ entry-words (length zs) l

pub walk_one : (s : List ℕ) → mapped bared (walk one s) ≡ walk_archive s
unfolding walk walk_archive
walk_one s =
    mapped_on bared (header CUBE s) _ _ (λ zs l.
    mapped_then (map bare) bared (bases one zs l) _ (celled_sums s zs) (λ bs m.
    mapped_then (map (row_of (length zs))) bared (cells one zs m) _ (closed s zs (map bare bs)) (λ cs n. mapped_on bared (close s n) _ _ (λ u rest. refl))
    ∙ ap (λ (p : Parsed (List (Row Total))). and_then p (closed s zs (map bare bs))) (cells-same zs m))
    ∙ ap (λ (p : Parsed (List BasedSums)). and_then p (celled_sums s zs)) (bases-same zs l))

rows-same : (a : Held (List ℕ)) → rows_sums (bared a) ≡ sums_in (rows_in a)
rows-same a = map-map (λ b. b.row) bare a.bases ∙ sym (map-map (carried (λ f. f.sums)) (λ b. b.row) a.bases)

-- An archive is read as edition one just as archive_entries reads it: the same stop, or the same sizes, base rows and entries.
pub read_one : (s : List ℕ) → mapped bared (read one s) ≡ read_archive s
unfolding read read_archive
read_one s =
    mapped_then bared bared (walk one s) (judged one s) (judged_sums s) each
    ∙ ap (λ p. and_then p (judged_sums s)) (walk_one s)
  where
    each : (a : Held (List ℕ)) (rest : List ℕ) → mapped bared (judged one s a rest) ≡ judged_sums s (bared a) rest
    each a rest =
        let e : archive_bytes one a.header (rows_in a) ≡ archive_sums a.header (rows_sums (bared a)) = archive_one a.header (rows_in a) ∙ ap (archive_sums a.header) (sym (rows-same a)) in
        mapped_test bared (same s (archive_bytes one a.header (rows_in a))) 12 (got a rest)
        ∙ ap (λ (bs : List ℕ). stop_unless (same s bs) 12 (got (bared a) rest)) e

-- ---- the limits

sums_told : (rows : List (Row Total)) → sums_in (told rows) ≡ rows
sums_told rows = map-map (carried (λ f. f.sums)) (carried converts) rows ∙ map-id rows

-- Base rows of edition one have the extremes that their sums and counts tell,
pub rows_one : (zs : List ℕ) (rows : List (Row Figures)) → Limits one zs rows → rows ≡ told (sums_in rows)
rows_one zs rows l = sym (map-map (carried converts) (carried (λ f. f.sums)) rows ∙ map_same (λ r. carried converts (carried (λ f. f.sums) r)) (λ r. r) rows (λ r m. row r (l.each r m)) ∙ map-id rows)
  where
    row : (r : Row Figures) → Fair one zs r → carried converts (carried (λ f. f.sums) r) ≡ r
    row r f = ap (λ e. record { codes = r.codes; total = record { sums = r.total.sums; extremes = e } }) (sym ((kept-one r.total.sums r.total.extremes f.made).0 f.kept))

-- and its limits are those of archive_entries on sums and counts.
pub limits_sums : (zs : List ℕ) (rows : List (Row Figures)) → Limits one zs rows → LimitsSums zs (sums_in rows)
limits_sums zs rows l = sums_limits one zs rows ((one_headed zs).0 l.headed) l

pub limits_told : (zs : List ℕ) (rows : List (Row Total)) → LimitsSums zs rows → Limits one zs (told rows)
limits_told zs rows l = record {
  headed = (one_headed zs).1 l.sized;
  few = omega (arith, l.few, length-map rows (carried converts));
  rising = subst (Rising earlier) (sym (codes-carried converts rows)) l.rising;
  each = λ r m. let q = Memᴰ.of_map (carried converts) rows m in let f = l.each q.0 q.1 in
      subst (Fair one zs) q.2 (record { below = f.below; counted = f.counted; made = f.made; kept = (kept-one q.0.total (converted q.0.total) f.made).1 refl });
  counts = subst (λ (rs : List (Row Total)). count_of rs ≤ most) (sym (sums_told rows)) l.counts;
}
