-- An archive's text is at most 11 bytes for each word of it: a word has at most ten digits and a sum, two words, at most twenty characters, and one character ends each.
use mathlib.Core.Path.{refl}
use mathlib.Core.Bool.{Bool, true, false, cond}
use mathlib.Core.List.Memᴰ
use mathlib.Core.List.{List, [], ◌∷◌, ◌++◌, flat_map}
use Prim.Native.Nat.{ℕ, ◌+◌, ◌*◌, ◌^◌, ◌≤◌, ◌<◌}
use native.Mathlib.Omega.{arith}
use lib.Dec.{eqb}
use lib.ListN.{length, length-append}
use Rattle.lists.specs.Lists.{◌∈◌}
use Rattle.lists.proofs.Members.{flat-length}
use Rattle.fields.specs.Words.{word_bytes}
use Rattle.fields_check.specs.Check.{check_of}
use Rattle.text_decimals.specs.Decimals.{ascii, decimal}
use Rattle.text_decimals.proofs.Digits.{word_digits, integer_digits}
use Rattle.fields_walk.specs.Fields.{header_bytes}
use Rattle.fields_walk.proofs.Lengths.{length-header}
use Rattle.cube.specs.declared.Total.{Total}
use Rattle.cube.specs.Measure.{Row}
use Rattle.cube.specs.Codes.{ALL}
use Rattle.archive_entries.specs.Layout.{CUBE, Based, Held, cell_bytes, base_bytes, section, layout}
use Rattle.archive_entries.proofs.Walkable.{Walkable}
use Rattle.archive_entries.proofs.Lengths.{cell-length, base-length}
use Rattle.text_lines.specs.Lines.{code_text, row_text, set_text, base_text, cell_text, head_text}
use Rattle.text_lines.proofs.Texts.{row_text_length, base_text_length, cell_text_length, head_text_length}
use Rattle.text_listing.specs.Listing.{listing}
use Rattle.text_listing.proofs.Fits.{RowFits, BaseFits, walkable_fits}

-- texts that are at most 11 quarters as long as the bytes
flat-within : {A : Type 0} (text bytes : A → List ℕ) (xs : List A) → ((x : A) → x ∈ xs → 4 * length (text x) ≤ 11 * length (bytes x))
    → 4 * length (flat_map text xs) ≤ 11 * length (flat_map bytes xs)
unfolding flat_map
flat-within text bytes [] h = omega arith
flat-within text bytes (x ∷ xs) h = omega (
  arith,
  length-append (text x) (flat_map text xs),
  length-append (bytes x) (flat_map bytes xs),
  h x (Memᴰ.head refl),
  flat-within text bytes xs (λ y m. h y (Memᴰ.tail m)),
)

code-few : (c : ℕ) → c < 2 ^ 32 → length (code_text c) ≤ 11
unfolding code_text
code-few c h = omega (arith, length-append (cond (eqb c ALL) (ascii "*") (decimal c)) (ascii " "), go (eqb c ALL))
  where
    go : (b : Bool) → length (cond b (ascii "*") (decimal c)) ≤ 10
    go true = omega arith
    go false = word_digits c h

set-few : (s : ℕ) → s < 2 ^ 32 → length (set_text s) ≤ 11
unfolding set_text
set-few s h = omega (arith, word_digits s h)

row-few : (d : ℕ) (r : Row Total) → RowFits d r → length (row_text r) ≤ 11 * d + 31
row-few d r f = omega (
  arith,
  row_text_length r,
  flat-length code_text 11 r.codes (λ c m. code-few c (f.0.1 c m)),
  f.0.0,
  integer_digits r.total.sum f.1.0,
  word_digits r.total.count f.1.1,
)

base-within : (d : ℕ) (b : Based) → BaseFits d b → 4 * length (base_text b) ≤ 11 * length (base_bytes b)
base-within d b f = omega (
  arith,
  base_text_length b,
  row-few d b.row f.row,
  flat-length set_text 11 b.list (λ s m. set-few s (f.sets s m)),
  base-length d b f.row.0.0,
)

cell-within : (d : ℕ) (r : Row Total) → RowFits d r → 4 * length (cell_text r) ≤ 11 * length (cell_bytes r)
cell-within d r f = omega (arith, cell_text_length r, row-few d r f, cell-length d r f.0.0)

head_few : (d n m : ℕ) → d < 2 ^ 32 → n < 2 ^ 32 → m < 2 ^ 32 → length (head_text d n m) ≤ 33
head_few d n m p q r = omega (
  arith,
  head_text_length d n m,
  length-append (decimal d) (ascii " "),
  length-append (decimal n) (ascii " "),
  length-append (decimal m) (ascii "\n"),
  word_digits d p,
  word_digits n q,
  word_digits m r,
)

pub listing-within : (a : Held) → Walkable a → 4 * length (listing a) ≤ 11 * length (layout a)
unfolding listing layout
listing-within a w =
    let d = length a.sizes in
    let front = header_bytes CUBE a.sizes in
    let bases = section base_bytes a.bases in
    let cells = section cell_bytes a.cells in
    let body = front ++ (bases ++ cells) in
    let head = head_text d (length a.bases) (length a.cells) in
    omega (
      arith,
      length-append body (word_bytes (check_of body)),
      length-append front (bases ++ cells),
      length-append bases cells,
      length-header CUBE a.sizes,
      length-append head (flat_map base_text a.bases ++ flat_map cell_text a.cells),
      length-append (flat_map base_text a.bases) (flat_map cell_text a.cells),
      head_few d (length a.bases) (length a.cells) (omega (arith, w.sized.few)) (omega (arith, w.few)) w.count,
      flat-within base_text base_bytes a.bases (λ b m. base-within d b (walkable_fits w b m)),
      flat-within cell_text cell_bytes a.cells (λ r m. cell-within d r (w.each r m)),
    )
