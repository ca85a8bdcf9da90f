-- Which entry answers a question: none where no row falls in the cell, the row's where it is single on the cell's set, and otherwise the normal entry at the cell.
use mathlib.Core.Path.{◌≡◌, refl, sym, ap, subst, ◌∙◌}
use mathlib.Core.Logic.{inl}
use mathlib.Core.Bool.{true, false, false≢true}
use mathlib.Core.Option.{some as just}
use mathlib.Core.List.Memᴰ
use mathlib.Core.List.{List, [], ◌∷◌}
use Prim.Native.Nat.{ℕ, zero, suc, ◌+◌, ◌*◌, ◌≤◌, ◌<◌}
use native.Mathlib.Omega.{arith}
use lib.ListN.{length, get_or, get_elem?, length-map}
use Rattle.std.specs.Prelude.{None}
use Rattle.lists.specs.Lists.{◌∈◌}
use Rattle.lists.specs.Search.{Between}
use Rattle.lists.proofs.Tests.{cases}
use Rattle.lists.proofs.Members.{at_in, in_at}
use Rattle.lists.proofs.Places.{map_at}
use Rattle.lists.proofs.Search.{rising-found}
use Rattle.lattice.specs.Sets.{sets}
use Rattle.cube.specs.declared.Total.{Total}
use Rattle.cube.specs.Measure.{Row, sums as measure, codes_of}
use Rattle.cube.specs.Bounds.{Summable}
use Rattle.cube.specs.Codes.{falls, cell, set-of, plain}
use Rattle.cube.specs.Cube.{within, total}
use Rattle.cube.specs.Condensed.{Answer, found, single, normals, Base, lookup, ours}
use Rattle.cube.proofs.Codes.{plain_laws}
use Rattle.cube.proofs.Cells.{single-within, crowd_within}
use Rattle.cube.proofs.CellOrder.{comes_before, by-keys, normals-rising}
use Rattle.cube.proofs.Sums.{sums-add}
use Rattle.cube.proofs.Promises.{empty-entries, normal-cells, ours_condensed, row_answers, normal_answers}
use Rattle.cube.proofs.Questions.{lookup-none}
use Rattle.rows.specs.Rows.{row_at}
use Rattle.rows.proofs.Flat.{blank}
use Rattle.archive_entries.specs.Places.{row_there}
use Rattle.call_search.specs.Search.{entry_before}
use Rattle.call_questions.specs.Questions.{rowless, First, NormalsAt}
use Rattle.call_questions.proofs.Stored.{held-count, held_there}

-- the member at a place
just_at : {A : Type 0} (a : A) (l : List A) (k : ℕ) → k < length l → get_elem? l k ≡ just (get_or l k a)
just_at a [] k h = absurd (omega arith)
just_at a (x ∷ l) zero h = refl
just_at a (x ∷ l) (suc k) h = just_at a l k (omega arith)

-- no row falls in the cell
pub answer-none : (d : ℕ) (rows : List (Row Total)) (b : Base (plain d) (codes_of rows)) (c : List ℕ) → First c (codes_of rows) None
    → rowless d (length rows) c ≡ lookup (plain d) c (ours (plain d) measure rows)
answer-none d [] b c f = sym (ap (lookup (plain d) c) (empty-entries measure d))
answer-none d (r ∷ rows) b c f = sym (lookup-none (plain d) measure (r ∷ rows) (ours_condensed measure sums-add d (r ∷ rows) b) c
    (λ x. cases x
    (λ h. let k = in_at [] h.1 in false≢true (sym (f k.0 (omega (arith, k.1, length-map (r ∷ rows) (λ q. q.codes)))) ∙ ap (falls c) k.2 ∙ h.2))
    (λ m. Memᴰ.not-nil m)))

module _ (d : ℕ) (rows : List (Row Total)) (b : Base (plain d) (codes_of rows)) (c : List ℕ) where
  abbrev xs : List (List ℕ)
  xs = codes_of rows

  abbrev cells : List (List ℕ)
  cells = normals (plain d) xs

  abbrev answer : Answer Total
  answer = lookup (plain d) c (ours (plain d) measure rows)

  -- where a row falls in the cell, the cell is the row's of the cell's set
  module _ (i : ℕ) (h : i < length rows) (f : falls c (row_at xs i) ≡ true) where
    there : row_at xs i ∈ xs
    there = at_in [] xs i (rw length-map h)

    own : (set-of c ∈ sets d) × (c ≡ cell (set-of c) (row_at xs i))
    own = (plain_laws d).cell-of c (row_at xs i) (b.valid (row_at xs i) there) f

    pub answer-row : single (plain d) xs (set-of c) (row_at xs i) ≡ true → answer ≡ found i (get_or rows i blank).total
    answer-row e =
        let w : within (plain d) xs c ≡ row_at xs i ∷ [] = ap (within (plain d) xs) own.1 ∙ single-within (plain d) (plain_laws d) xs b own.0 there e in
        row_answers measure sums-add d rows b c i (just_at blank rows i h) (w ∙ ap (λ (y : List ℕ). y ∷ []) (map_at (λ r. r.codes) blank [] rows i h))

    pub shared-cell : single (plain d) xs (set-of c) (row_at xs i) ≡ false → c ∈ cells
    shared-cell e =
        (normal-cells measure sums-add d rows b c).1 (inl (subst (λ (y : List ℕ). 2 ≤ length (within (plain d) xs y)) (sym own.1) (crowd_within (plain d) (plain_laws d) xs b own.0 there e)))

  -- the search among the normal entries, which rise by their keys, finds the one at the cell
  module _ {s : List ℕ} {at n k : ℕ} (held : NormalsAt s at n d rows) (m : Summable rows) (e : length c ≡ d) (g : Between (entry_before s at c) n k k) (i : c ∈ cells) where
    stored : (j : ℕ) → j < length cells → entry_before s at c j ≡ comes_before (get_or cells j []) c
    stored j h = rw e (ap (λ (r : Row Total). comes_before r.codes c) (held_there held b m j (omega (arith, h, held-count held))))

    here : (k < length cells) × (get_or cells k [] ≡ c)
    here = rising-found [] by-keys (normals-rising d xs b) i (entry_before s at c) stored (subst (λ (l : ℕ). Between (entry_before s at c) l k k) (held-count held) g)

    pub found_here : k < n
    found_here = omega (arith, here.0, held-count held)

    pub answer-normal : answer ≡ found (length rows + k) (row_there s d (at + k * (4 * d + 12))).total
    answer-normal =
        let q = here.1 in
        normal_answers measure sums-add d rows b c k (just_at [] cells k here.0 ∙ ap just q)
        ∙ ap (found (length rows + k)) (ap (total (plain d) measure rows) (sym q) ∙ sym (ap (λ (r : Row Total). r.total) (held_there held b m k found_here)))
