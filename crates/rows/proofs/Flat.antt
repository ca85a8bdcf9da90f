-- Rows in a flat list, by their places.
use mathlib.Core.Path.{◌≡◌, refl, sym, ap, ap₂, ◌∙◌}
use mathlib.Core.List.{List, [], ◌∷◌, ◌++◌}
use Prim.Native.Nat.{ℕ, zero, suc, ◌+◌, ◌-◌, ◌*◌, ◌≤◌, ◌<◌}
use native.Mathlib.Nat.{zero-mul, suc-mul, add_comm, add-zero, not-suc-le-zero, le_of_suc-le-suc}
use native.Mathlib.Numerals.{add-one}
use native.Mathlib.Omega.{arith}
use lib.ListN.{length, get_or, take, drop, take-append-drop}
use lib.Seq.{drop-drop, get_or-take, get_or-drop, take-take, take_at, drop_at, length-take-le}
use borrow.Rule.Slice.PartMut.{put_mid}
use Rattle.fields_sums.specs.Twos.{sum_of}
use Rattle.cube.specs.declared.Total.{Total}
use Rattle.cube.specs.Measure.{Row, nothing}
use Rattle.rows.specs.Rows.{width, row_of, cut, row_at, rows_of, row_total}
use Rattle.rows.proofs.Rows.{row_within, row-at}
use Rattle.lists.proofs.Parts.{part-front}

-- the words of the row at a place
abbrev pub words_of : ℕ → List ℕ → ℕ → List ℕ
words_of d ws i = take (width d) (drop (i * width d) ws)

-- the row at a place of a flat list
abbrev pub placed : ℕ → List ℕ → ℕ → Row Total
placed d ws i = row_of d (drop (i * width d) ws)

-- what stands beyond the rows
abbrev pub blank : Row Total
blank = record { codes = []; total = nothing }

placed_next : (d i : ℕ) (ws : List ℕ) → placed d (drop (width d) ws) i ≡ placed d ws (suc i)
placed_next d i ws = ap (row_of d) (simp (drop-drop, suc-mul, add_comm (width d) (i * width d)))

pub rows-length : (d n : ℕ) (ws : List ℕ) → length (rows_of d n ws) ≡ n
unfolding rows_of
rows-length d zero ws = refl
rows-length d (suc n) ws = ap suc (rows-length d n (drop (width d) ws))

pub rows_at : (d n i : ℕ) (ws : List ℕ) → i < n → get_or (rows_of d n ws) i blank ≡ placed d ws i
unfolding rows_of
rows_at d zero i ws h = absurd (not-suc-le-zero h)
rows_at d (suc n) zero ws h = simp zero-mul
rows_at d (suc n) (suc i) ws h = rows_at d n i (drop (width d) ws) (le_of_suc-le-suc h) ∙ placed_next d i ws

pub total-at : (d n i : ℕ) (ws : List ℕ) → i < n → row_total d n ws i ≡ (placed d ws i).total
unfolding row_total
total-at d n i ws h = ap (λ (r : Row Total). r.total) (rows_at d n i ws h)

-- one row more
pub rows_more : (d n : ℕ) (ws : List ℕ) → rows_of d (suc n) ws ≡ rows_of d n ws ++ placed d ws n ∷ []
unfolding rows_of
rows_more d zero ws = simp zero-mul
rows_more d (suc n) ws =
    ap (λ (l : List (Row Total)). row_of d ws ∷ l)
    (rows_more d n (drop (width d) ws) ∙ ap (λ (r : Row Total). rows_of d n (drop (width d) ws) ++ r ∷ []) (placed_next d n ws))

-- the codes and the total of a row by its words
pub row_words : (d n i : ℕ) (ws : List ℕ) → i < n → take d (words_of d ws i) ≡ row_at (cut d n ws) i
row_words d n i ws h = take-take d (width d) (drop (i * width d) ws) (omega arith) ∙ sym (row-at d n i ws h)

word_in : (d k : ℕ) (l : List ℕ) → k < 3 → get_or (take (width d) l) (d + k) 0 ≡ get_or (drop d l) k 0
word_in d k l h = get_or-take (width d) l (d + k) 0 (omega (arith, h)) ∙ sym (get_or-drop d l k 0)

word_first : (d : ℕ) (l : List ℕ) → get_or (take (width d) l) d 0 ≡ get_or (drop d l) 0 0
word_first d l = ap (λ (k : ℕ). get_or (take (width d) l) k 0) (sym (add-zero d)) ∙ word_in d 0 l (omega arith)

pub total-words : (d n i : ℕ) (ws : List ℕ) → i < n
    → record { sum = sum_of (get_or (words_of d ws i) d 0) (get_or (words_of d ws i) (d + 1) 0); count = get_or (words_of d ws i) (d + 2) 0 } ≡ row_total d n ws i
total-words d n i ws h =
    let l = drop (i * width d) ws in
    rw (word_first d l, word_in d 1 l (omega arith), word_in d 2 l (omega arith)) (sym (total-at d n i ws h))

-- a row is in its own words
back-words : (d k : ℕ) (l : List ℕ) → k < 3 → get_or (drop d (take (width d) l)) k 0 ≡ get_or (drop d l) k 0
back-words d k l h = get_or-drop d (take (width d) l) k 0 ∙ word_in d k l h

pub row-front : (d : ℕ) (l : List ℕ) → row_of d (take (width d) l) ≡ row_of d l
row-front d l =
    let f = take-take d (width d) l (omega arith) in
    let p = ap₂ sum_of (back-words d 0 l (omega arith)) (back-words d 1 l (omega arith)) in
    let q = back-words d 2 l (omega arith) in
    λ j. record { codes = f j; total = record { sum = p j; count = q j } }

-- rows that have the same at each place are the same
rows_same : (d n : ℕ) (ws us : List ℕ) → ((i : ℕ) → i < n → placed d ws i ≡ placed d us i) → rows_of d n ws ≡ rows_of d n us
unfolding rows_of
rows_same d zero ws us h = refl
rows_same d (suc n) ws us h =
    rows_more d n ws
    ∙ ap₂ (λ (l : List (Row Total)) (r : Row Total). l ++ r ∷ []) (rows_same d n ws us (λ i k. h i (omega arith))) (h n (omega arith))
    ∙ sym (rows_more d n us)

-- A row written behind k rows: words m over those of place k.
module _ (d k : ℕ) (ws m : List ℕ) (e : length m ≡ width d) (h : k * width d + width d ≤ length ws) where
  abbrev over : List ℕ
  over = take (k * width d) ws ++ (m ++ drop (width d) (drop (k * width d) ws))

  front : length (take (k * width d) ws) ≡ k * width d
  front = length-take-le (k * width d) ws (omega (arith, h))

  -- the rows before it are as they were
  put_before : (i : ℕ) → i < k → placed d over i ≡ placed d ws i
  put_before i l =
      let w : i * width d + width d ≤ length (take (k * width d) ws) = rw front (row_within (width d) k i l) in
      let same : words_of d over i ≡ words_of d ws i =
      part-front (take (k * width d) ws) (m ++ drop (width d) (drop (k * width d) ws)) (i * width d) (width d) w
      ∙ sym (part-front (take (k * width d) ws) (drop (k * width d) ws) (i * width d) (width d) w)
      ∙ ap (λ (l : List ℕ). words_of d l i) (take-append-drop (k * width d) ws) in
      sym (row-front d (drop (i * width d) over)) ∙ ap (row_of d) same ∙ row-front d (drop (i * width d) ws)

  put_here : placed d over k ≡ row_of d m
  put_here =
      let rest = drop (width d) (drop (k * width d) ws) in
      ap (row_of d) (drop_at (take (k * width d) ws) (m ++ rest) (k * width d) front)
      ∙ sym (row-front d (m ++ rest)) ∙ ap (row_of d) (take_at m rest (width d) e)

  rows_put : rows_of d (suc k) over ≡ rows_of d k ws ++ row_of d m ∷ []
  rows_put =
      rows_more d k over ∙ ap₂ (λ (l : List (Row Total)) (r : Row Total). l ++ r ∷ []) (rows_same d k over ws put_before) put_here

-- the same of the part that row k has
pub row-stored : (d k : ℕ) (ws m : List ℕ) → length m ≡ width d → k * width d + width d ≤ length ws
    → rows_of d (k + 1) (put_mid (k * width d) (k * width d + width d - k * width d) ws m) ≡ rows_of d k ws ++ row_of d m ∷ []
row-stored d k ws m e h =
    let w : k * width d + width d - k * width d ≡ width d = omega arith in
    rw (w, add-one) (rows_put d k ws m e h)
