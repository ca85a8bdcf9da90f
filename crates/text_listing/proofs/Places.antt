-- Where the entries of an accepted archive stand, and that its text is short enough.
use mathlib.Core.Path.{◌≡◌, sym, ap, ap₂, subst, ◌∙◌}
use mathlib.Core.List.{List, ◌++◌, flat_map, append_assoc}
use Prim.Native.Nat.{ℕ, ◌+◌, ◌-◌, ◌*◌, ◌≤◌}
use native.Mathlib.Omega.{arith}
use lib.ListN.{length, take, drop, length-append}
use lib.Seq.{take_at}
use Rattle.lists.proofs.Parts.{drop-front}
use Rattle.fields.specs.Words.{word_bytes, word_at}
use Rattle.fields_check.specs.Check.{check_of}
use Rattle.fields_walk.specs.Parsed.{got}
use Rattle.fields_walk.specs.Fields.{header_bytes}
use Rattle.fields_walk.specs.Limits.{Bytes}
use Rattle.fields_walk.proofs.Lengths.{length-flat, length-header}
use Rattle.fields_walk.proofs.Places.{header_read}
use Rattle.archive_entries.specs.Layout.{CUBE, Held, cell_bytes, base_bytes, section, layout}
use Rattle.archive_entries.specs.Reading.{walk_archive, read_archive}
use Rattle.archive_entries.proofs.Walkable.{Walkable, walk_forth}
use Rattle.archive_entries.proofs.Fields.{parts as came}
use Rattle.archive_entries.proofs.Accepted.{read_forth}
use Rattle.archive_entries.proofs.Lengths.{cell-length}
use Rattle.text_lines.specs.Lines.{head_text, base_text, cell_text}
use Rattle.text_listing.specs.Listing.{listing, held_by, Accepted}
use Rattle.text_listing.proofs.Fits.{RowFits, BaseFits, walkable_fits}
use Rattle.archive_cells.specs.WritingLaws.{writing_none}
use Rattle.text_listing.proofs.Turns.{Turn, turn-start}
use Rattle.text_listing.proofs.Cuts.{Cut}
use Rattle.text_listing.proofs.Bound.{listing-within}

-- parts one behind the other
in_order : (f x b y c k : List ℕ) → (f ++ ((x ++ b) ++ (y ++ c))) ++ k ≡ f ++ (x ++ (b ++ (y ++ (c ++ k))))
in_order f x b y c k = simp append_assoc

four-first : (f x b y t : List ℕ) → f ++ (x ++ (b ++ (y ++ t))) ≡ (f ++ (x ++ (b ++ y))) ++ t
four-first f x b y t = simp append_assoc

module _ {s : List ℕ} {d n m : ℕ} (b : Bytes s) (x : Accepted s d n m) where
  abbrev a : Held
  a = x.held

  held_is : held_by (read_archive s) ≡ a
  held_is = ap held_by x.read

  walked : walk_archive s ≡ got a x.rest
  walked = (read_forth s x.read).0

  walkable : Walkable a
  walkable = (walk_forth s a x.rest b walked).0

  is_layout : s ≡ layout a
  is_layout = (walk_forth s a x.rest b walked).1

  -- the parts of its bytes
  abbrev front : List ℕ
  front = header_bytes CUBE a.sizes

  abbrev base_count : List ℕ
  base_count = word_bytes (length a.bases)

  abbrev bases : List ℕ
  bases = flat_map base_bytes a.bases

  abbrev cell_count : List ℕ
  cell_count = word_bytes (length a.cells)

  abbrev cells : List ℕ
  cells = flat_map cell_bytes a.cells

  abbrev check : List ℕ
  check = word_bytes (check_of (front ++ (section base_bytes a.bases ++ section cell_bytes a.cells)))

  abbrev behind : List ℕ
  behind = cell_count ++ (cells ++ check)

  parts : s ≡ front ++ (base_count ++ (bases ++ behind))
  unfolding layout
  parts = is_layout ∙ in_order front base_count bases cell_count cells check

  -- D stands behind the opening
  pub dims_there : d ≡ word_at s 4
  dims_there = x.dims ∙ (header_read s CUBE (came s walked).2).dims

  -- the base entries stand behind the sizes and the base count
  bases_there : drop (12 + 4 * d) s ≡ bases ++ behind
  bases_there =
      let p = front ++ base_count in
      let e : s ≡ p ++ (bases ++ behind) = parts ∙ sym (append_assoc front base_count (bases ++ behind)) in
      drop-front p (bases ++ behind) (12 + 4 * d) e (omega (arith, length-append front base_count, length-header CUBE a.sizes, x.dims))

  -- the normal entries stand before the check word
  cells-length : length cells ≡ m * (4 * d + 12)
  cells-length =
      let e = length-flat cell_bytes (4 * d + 12) a.cells (λ r i. cell-length d r ((walkable.each r i).0.0 ∙ sym x.dims)) in
      e ∙ ap (λ (k : ℕ). k * (4 * d + 12)) (sym x.cells)

  pub whole : 20 + 4 * d + m * (4 * d + 12) ≤ length s
  whole = omega (arith, ap length parts, length-append front (base_count ++ (bases ++ behind)), length-append bases behind, length-append cells check, length-header CUBE a.sizes, x.dims, cells-length)

  cells_there : drop (length s - 4 - m * (4 * d + 12)) s ≡ cells ++ check
  cells_there =
      let p = front ++ (base_count ++ (bases ++ cell_count)) in
      let e : s ≡ p ++ (cells ++ check) = parts ∙ four-first front base_count bases cell_count (cells ++ check) in
      drop-front p (cells ++ check) (length s - 4 - m * (4 * d + 12)) e (omega (arith, ap length e, length-append p (cells ++ check), length-append cells check, cells-length))

  -- where the loops over the entries begin
  pub bases-start : (l : List ℕ) → Turn base_bytes base_text (BaseFits d) s (held_by (read_archive s)).bases l l 0 n (12 + 4 * d) 0
  bases-start l = rw held_is (turn-start base_bytes base_text (BaseFits d) s a.bases l behind (sym x.bases) (omega (arith, whole)) bases_there
      (λ e i. subst (λ (k : ℕ). BaseFits k e) (sym x.dims) (walkable_fits walkable e i)))

  pub cells-cut : (l : List ℕ) {rest : List ℕ} {at n : ℕ} → rest ≡ take n (drop at s) → at ≡ length s - 4 - m * (4 * d + 12) → n ≡ m * (4 * d + 12)
      → Cut cell_bytes cell_text (RowFits d) rest (flat_map cell_text (held_by (read_archive s)).cells) l l 0
  cells-cut l e p q = rw held_is (record {
    left = a.cells;
    here = e ∙ ap₂ (λ (k j : ℕ). take k (drop j s)) q p ∙ ap (take (m * (4 * d + 12))) cells_there ∙ take_at cells check (m * (4 * d + 12)) cells-length;
    each = λ r i. subst (λ (k : ℕ). RowFits k r) (sym x.dims) (walkable.each r i);
    writing = writing_none (flat_map cell_text a.cells) l;
  })

  -- the three parts of the text, by what the code knows
  abbrev held : Held
  held = held_by (read_archive s)

  pub listing-parts : listing held ≡ head_text d n m ++ (flat_map base_text held.bases ++ flat_map cell_text held.cells)
  unfolding listing
  listing-parts =
      let f : length held.sizes ≡ d = ap (λ (h : Held). length h.sizes) held_is ∙ sym x.dims in
      let g : length held.bases ≡ n = ap (λ (h : Held). length h.bases) held_is ∙ sym x.bases in
      let k : length held.cells ≡ m = ap (λ (h : Held). length h.cells) held_is ∙ sym x.cells in
      ap (λ (t : List ℕ). t ++ (flat_map base_text held.bases ++ flat_map cell_text held.cells)) (λ i. head_text (f i) (g i) (k i))

  pub listing-length : length (head_text d n m) + length (flat_map base_text held.bases) + length (flat_map cell_text held.cells) ≡ length (listing held)
  listing-length = omega (
    arith,
    ap length listing-parts,
    length-append (head_text d n m) (flat_map base_text held.bases ++ flat_map cell_text held.cells),
    length-append (flat_map base_text held.bases) (flat_map cell_text held.cells),
  )

  -- the text is at most 11 bytes for each word
  pub listing-few : 4 * length (listing held) ≤ 11 * length s
  listing-few = rw held_is (subst (λ (t : List ℕ). 4 * length (listing a) ≤ 11 * length t) (sym is_layout) (listing-within a walkable))
