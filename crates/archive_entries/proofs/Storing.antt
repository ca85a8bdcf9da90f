-- Storing the base rows of an archive: one row, and the loop over the entries.
use mathlib.Core.Path.{◌≡◌, refl, sym, ap, ap₂, subst, ◌∙◌}
use mathlib.Core.List.{List, [], ◌∷◌, ◌++◌, map, append-nil}
use Prim.Native.Nat.{ℕ, zero, suc, ◌+◌, ◌-◌, ◌*◌, ◌≤◌, ◌<◌}
use native.Mathlib.Nat.{sub-zero}
use native.Mathlib.Omega.{arith}
use lib.ListN.{length, get_or, take, drop}
use lib.Seq.{append_snoc, get_or-drop}
use borrow.Rule.Slice.PartMut.{put_mid}
use Rattle.fields.specs.Words.{word_at, words_at}
use Rattle.fields.specs.WordsLaws.{length_words_at, get_d_words_at}
use Rattle.fields_sums.specs.Twos.{sum_of, sum_at}
use Rattle.cube.specs.declared.Total.{Total}
use Rattle.cube.specs.Measure.{Row}
use Rattle.rows.specs.Rows.{width, row_of, rows_of}
use Rattle.rows.proofs.Flat.{row-stored}
use Rattle.fields_walk.specs.Parsed.{got}
use Rattle.archive_entries.specs.Layout.{Based}
use Rattle.archive_entries.specs.Reading.{entry, entries, walk_archive, rows_in, Stored}
use Rattle.fields_walk.proofs.Steps.{cons_forth}
use Rattle.archive_entries.specs.Places.{row_there, width_there}
use Rattle.archive_entries.proofs.Entry.{Entry, entry_read}
use Rattle.archive_entries.proofs.Fields.{Accepted, accepted_stored}

-- the words of an entry are its row's
codes-front : (s : List ℕ) (d at : ℕ) → take d (words_at s (width d) at) ≡ words_at s d at
unfolding words_at
codes-front s zero at = refl
codes-front s (suc d) at = let e : width (suc d) ≡ suc (width d) = omega arith in rw e (ap (λ (l : List ℕ). word_at s at ∷ l) (codes-front s d (at + 4)))

word_behind : (s : List ℕ) (d at k p : ℕ) → k < 3 → at + 4 * (d + k) ≡ p → get_or (drop d (words_at s (width d) at)) k 0 ≡ word_at s p
word_behind s d at k p h e =
    get_or-drop d (words_at s (width d) at) k 0 ∙ get_d_words_at s (width d) at (d + k) (omega (arith, h)) ∙ ap (word_at s) e

row_words : (s : List ℕ) (d at : ℕ) → row_of d (words_at s (width d) at) ≡ row_there s d at
unfolding sum_at
row_words s d at =
    let c = codes-front s d at in
    let low = word_behind s d at 0 (at + 4 * d) (omega arith) (omega arith) in
    let high = word_behind s d at 1 (at + 4 * d + 4) (omega arith) (omega arith) in
    let sum = ap₂ sum_of low high in
    let count = word_behind s d at 2 (at + 4 * d + 8) (omega arith) (omega arith) in
    λ j. record { codes = c j; total = record { sum = sum j; count = count j } }

-- they are read over row k
pub row_read : (s : List ℕ) (d at k : ℕ) (ws m : List ℕ) → k * width d + width d ≤ length ws → m ≡ words_at s (width d) at
    → rows_of d (k + 1) (put_mid (k * width d) (k * width d + width d - k * width d) ws m) ≡ rows_of d k ws ++ row_there s d at ∷ []
row_read s d at k ws m h e =
    row-stored d k ws m (ap length e ∙ length_words_at s (width d) at) h
    ∙ ap (λ (r : Row Total). rows_of d k ws ++ r ∷ []) (ap (row_of d) e ∙ row_words s d at)

-- one row goes from those left to those stored
moved : {A : Type 0} (xs : List A) (a : A) (left : List A) {ys all : List A} → ys ≡ xs ++ a ∷ [] → all ≡ xs ++ a ∷ left → all ≡ ys ++ left
moved xs a left e f = f ∙ rw e (sym (append_snoc xs a left))

-- where the loop stands before entry i: the rows that are stored, and the entries that are left
pub record Turn (b : List ℕ) (d n : ℕ) (ws : List ℕ) (at i : ℕ) : Type 0 where
  pub archive : Accepted b d n
  pub below : i ≤ n
  pub place : at ≤ length b
  pub before : List ℕ
  pub total : ℕ
  pub left : List Based
  pub end : List ℕ
  pub read : entries archive.held.sizes (n - i) before total (drop at b) ≡ got left end
  pub rows : rows_in archive.held ≡ rows_of d i ws ++ map (λ e. e.row) left

module _ (b : List ℕ) (d n : ℕ) (ws : List ℕ) where
  pub turn-start : Accepted b d n → Turn b d n ws (12 + 4 * d) 0
  unfolding rows_of
  turn-start a = record {
    archive = a;
    below = omega arith;
    place = a.whole;
    before = [];
    total = 0;
    left = a.held.bases;
    end = a.end;
    read = rw sub-zero a.read;
    rows = refl;
  }

  module _ {at i : ℕ} (t : Turn b d n ws at i) where
    -- the entry at hand, and those behind it
    here : i < n → (e : Based) × (es : List Based) × (l : List ℕ) × (entry t.archive.held.sizes t.before t.total (drop at b) ≡ got e l)
        × (entries t.archive.held.sizes (n - (i + 1)) e.row.codes (t.total + e.row.total.count) l ≡ got es t.end) × (t.left ≡ e ∷ es)
    unfolding entries
    here h =
        let f : suc (n - (i + 1)) ≡ n - i = omega arith in
        cons_forth (λ e. entries t.archive.held.sizes (n - (i + 1)) e.row.codes (t.total + e.row.total.count))
        (entry t.archive.held.sizes t.before t.total (drop at b))
        (ap (λ (m : ℕ). entries t.archive.held.sizes m t.before t.total (drop at b)) f ∙ t.read)

    there : (h : i < n) → Entry b d t.total at (here h).0.row (here h).2
    there h =
        let a = t.archive in
        subst (λ (m : ℕ). Entry b m t.total at (here h).0.row (here h).2) a.dims (entry_read b a.held.sizes t.before t.total at t.place (here h).3)

    pub turn-whole : i < n → at + width_there b d at ≤ length b
    turn-whole h = (there h).whole

    pub turn_on : (us : List ℕ) {next : ℕ} → i < n → rows_of d (i + 1) us ≡ rows_of d i ws ++ row_there b d at ∷ []
        → next ≡ at + width_there b d at → Turn b d n us next (i + 1)
    turn_on us {next} h e f =
        let g = here h in
        let q = there h in
        let l : g.2 ≡ drop next b = q.behind ∙ ap (λ (m : ℕ). drop m b) (sym f) in
        record {
          archive = t.archive;
          below = omega arith;
          place = omega (arith, turn-whole h);
          before = g.0.row.codes;
          total = t.total + g.0.row.total.count;
          left = g.1;
          end = t.end;
          read = ap (entries t.archive.held.sizes (n - (i + 1)) g.0.row.codes (t.total + g.0.row.total.count)) (sym l) ∙ g.4;
          rows = moved (rows_of d i ws) (row_there b d at) (map (λ x. x.row) g.1) e (t.rows ∙ ap (λ (m : List Based). rows_of d i ws ++ map (λ x. x.row) m) g.5 ∙ ap (λ (r : Row Total). rows_of d i ws ++ r ∷ map (λ x. x.row) g.1) q.row);
        }

    pub turn-done : n ≤ i → Stored (walk_archive b) ws
    unfolding entries
    turn-done h =
        let f : n - i ≡ 0 = omega arith in
        let g : i ≡ n = let z = t.below in omega arith in
        let m = ap (λ (j : ℕ). entries t.archive.held.sizes j t.before t.total (drop at b)) (sym f) ∙ t.read in
        let l : t.left ≡ [] = cc in
        accepted_stored b d n t.archive ws
        (sym (t.rows ∙ ap (λ (m : List Based). rows_of d i ws ++ map (λ x. x.row) m) l ∙ append-nil (rows_of d i ws) ∙ ap (λ (j : ℕ). rows_of d j ws) g))
