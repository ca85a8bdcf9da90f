-- The rows of table t as the generator writes them: digit by digit, and row by row for each bit that is set.
use mathlib.Core.Path.{◌≡◌, refl, sym, ◌∙◌, ap, ap₂, subst}
use mathlib.Core.Bool.{Bool}
use mathlib.Core.List.{List, [], ◌∷◌, ◌++◌, flat_map, append_assoc}
use Prim.Native.Nat.{ℕ, zero, suc, ◌+◌, ◌-◌, ◌/◌, ◌%◌, ◌^◌, ◌≤◌, ◌<◌}
use native.Mathlib.Numerals.{add-one}
use native.Mathlib.Omega.{arith}
use lib.Dec.{eqb}
use lib.ListN.{length, take, drop, set, length-append}
use lib.Seq.{take_at, drop_at}
use borrow.Author.Tests.{eq-eqb, ne_eqb}
use borrow.Rule.Slice.PartMut.{mid_of, put_mid}
use Rattle.lists.specs.Lists.{only, keep}
use Rattle.fields.specs.Written.{Wrote}
use Rattle.fields.specs.WrittenLaws.{wrote_one}
use Rattle.archive_cells.specs.Writing.{Writing}
use Rattle.archive_cells.specs.WritingLaws.{writing_none, writing_more, writing_room, writing_done}
use Rattle.cube.specs.declared.Total.{Total}
use Rattle.rows.specs.Rows.{width, total_in, row_of}
use Rattle.small_model.specs.Small.{from, up_to, bit_of, binary, row}
use Rattle.small_model.proofs.Binary.{binary-length}
use Rattle.small_tally.specs.Flat.{flat_row, flat_rows}

-- ---- digits

pub binary-none : {d : ℕ} (j : ℕ) → d ≡ 0 → binary d j ≡ []
binary-none {d} j e = ap (λ (k : ℕ). binary k j) e

pub binary-last : (d j : ℕ) → (d ≡ 0 → ⊥) → binary d j ≡ binary (d - 1) (j / 2) ++ (j % 2 ∷ [])
binary-last zero j h = absurd (h refl)
binary-last (suc d) j h = let e : suc d - 1 ≡ d = omega arith in rw e

-- ---- a row

pub row-codes : (d j : ℕ) (rest : List ℕ) → take d (flat_row d j ++ rest) ≡ binary d j
unfolding flat_row
row-codes d j rest = ap (take d) (append_assoc (binary d j) (1 ∷ 0 ∷ 1 ∷ []) rest) ∙ take_at (binary d j) (1 ∷ 0 ∷ 1 ∷ rest) d (binary-length d j)

pub row-length : (d j : ℕ) → length (flat_row d j) ≡ width d
unfolding flat_row
row-length d j = omega (arith, length-append (binary d j) (1 ∷ 0 ∷ 1 ∷ []), binary-length d j)

-- the words of its total behind the digits
pub row_wrote : (d j : ℕ) {l m : List ℕ} {at : ℕ} → at + 3 ≤ length l → Wrote (binary d j) l m at → Wrote (flat_row d j) l (set (set (set m at 1) (at + 1) 0) (at + 2) 1) (at + 3)
unfolding flat_row
row_wrote d j {at = at} h w =
    let two : at + 1 + 1 ≡ at + 2 = omega arith in
    let three : at + 2 + 1 ≡ at + 3 = omega arith in
    let first = wrote_one 1 (omega (arith, h)) w in
    let second = rw two at (wrote_one 0 (omega (arith, h)) first) in
    simp append_assoc at (rw three at (wrote_one 1 (omega (arith, h)) second))

row-total : (d j : ℕ) (rest : List ℕ) → drop d (flat_row d j ++ rest) ≡ 1 ∷ 0 ∷ 1 ∷ rest
unfolding flat_row
row-total d j rest = ap (drop d) (append_assoc (binary d j) (1 ∷ 0 ∷ 1 ∷ []) rest) ∙ drop_at (binary d j) (1 ∷ 0 ∷ 1 ∷ rest) d (binary-length d j)

-- read as a row, they are the row of these digits
pub row_read : (d j : ℕ) (rest : List ℕ) → row_of d (flat_row d j ++ rest) ≡ row (binary d j)
row_read d j rest = ap₂ (λ (x : List ℕ) (t : Total). record { codes = x; total = t }) (row-codes d j rest) (ap total_in (row-total d j rest))

-- ---- the bits that are set

-- of n bits of t, those that are set, as numbers from k on
abbrev pub picks : ℕ → ℕ → ℕ → List ℕ
picks t k zero = []
picks t k (suc n) = only (eqb (t % 2) 1) k (picks (t / 2) (suc k) n)

picks_keep : (p : ℕ → Bool) (t k n : ℕ) → ((i : ℕ) → p (k + i) ≡ bit_of t i) → keep p (from k n) ≡ picks t k n
picks_keep p t k zero h = refl
picks_keep p t k (suc n) h =
    let z : k + 0 ≡ k = omega arith in
    let first : p k ≡ eqb (t % 2) 1 = ap p (sym z) ∙ h 0 in
    let next : (i : ℕ) → p (suc k + i) ≡ bit_of (t / 2) i = λ i. let s : suc k + i ≡ k + suc i = omega arith in ap p s ∙ h (suc i) in
    ap₂ (λ (b : Bool) (l : List ℕ). only b k l) first (picks_keep p (t / 2) (suc k) n next)

pub picks_all : (t n : ℕ) → keep (bit_of t) (up_to n) ≡ picks t 0 n
picks_all t n = picks_keep (bit_of t) t 0 n (λ i. let z : 0 + i ≡ i = omega arith in ap (bit_of t) z)

picks_step : (t j n : ℕ) → j < n → picks t j (n - j) ≡ only (eqb (t % 2) 1) j (picks (t / 2) (j + 1) (n - (j + 1)))
picks_step t j n h =
    let e : n - j ≡ suc (n - (j + 1)) = omega (arith, h) in
    rw (e, add-one)

-- ---- the rows still to be written, with the bits from j on

module _ (d t n : ℕ) where
  -- those of the bits of r, the first of which is bit j
  abbrev pub rows_from : ℕ → ℕ → List ℕ
  rows_from r j = flat_map (flat_row d) (picks r j (n - j))

  pub rows_none : (l : List ℕ) → n ≡ 2 ^ d → Writing (flat_rows d t) (rows_from t 0) l l 0
  unfolding flat_rows
  rows_none l e =
      let z : n - 0 ≡ 2 ^ d = omega (arith, e) in
      subst (λ (left : List ℕ). Writing (flat_rows d t) left l l 0) (ap (flat_map (flat_row d)) (picks_all t (2 ^ d)) ∙ rw z) (writing_none (flat_rows d t) l)

  rows_odd : (r j : ℕ) → j < n → r % 2 ≡ 1 → rows_from r j ≡ flat_row d j ++ rows_from (r / 2) (j + 1)
  unfolding flat_map
  rows_odd r j h e = rw (picks_step r j n h, eq-eqb (r % 2) 1 e)

  rows_even : (r j : ℕ) → j < n → (r % 2 ≡ 1 → ⊥) → rows_from r j ≡ rows_from (r / 2) (j + 1)
  rows_even r j h e = rw (picks_step r j n h, ne_eqb (r % 2) 1 e)

  module _ (r j : ℕ) {l m : List ℕ} {at : ℕ} (w : Writing (flat_rows d t) (rows_from r j) l m at) where
    pub rows_skip : j < n → (r % 2 ≡ 1 → ⊥) → Writing (flat_rows d t) (rows_from (r / 2) (j + 1)) l m at
    rows_skip h e = subst (λ (left : List ℕ). Writing (flat_rows d t) left l m at) (rows_even r j h e) w

    abbrev on : j < n → r % 2 ≡ 1 → Writing (flat_rows d t) (flat_row d j ++ rows_from (r / 2) (j + 1)) l m at
    on h e = subst (λ (left : List ℕ). Writing (flat_rows d t) left l m at) (rows_odd r j h e) w

    pub rows-room : j < n → r % 2 ≡ 1 → length (flat_rows d t) ≤ length l → at + width d ≤ length m
    rows-room h e k = omega (arith, writing_room (flat_row d j) (rows_from (r / 2) (j + 1)) (on h e) k, row-length d j)

    pub rows_more : {s : List ℕ} {k : ℕ} → j < n → r % 2 ≡ 1 → Wrote (flat_row d j) (mid_of at (length m - at) m) s k
        → Writing (flat_rows d t) (rows_from (r / 2) (j + 1)) l (put_mid at (length m - at) m s) (at + k)
    rows_more h e v = writing_more (flat_row d j) (rows_from (r / 2) (j + 1)) (on h e) v

    pub rows-done : n ≤ j → Wrote (flat_rows d t) l m at
    unfolding flat_map
    rows-done h =
        let z : n - j ≡ 0 = omega (arith, h) in
        writing_done (subst (λ (k : ℕ). Writing (flat_rows d t) (flat_map (flat_row d) (picks r j k)) l m at) z w)
