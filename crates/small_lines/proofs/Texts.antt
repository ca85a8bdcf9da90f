-- Tallies as text: the pairs from a number of entries on, and the line.
use mathlib.Core.Path.{◌≡◌, refl, sym, ◌∙◌, ap, subst}
use mathlib.Core.List.{List, [], ◌∷◌, ◌++◌, map, flat_map, append_assoc}
use Prim.Native.Nat.{ℕ, zero, suc, ◌+◌, ◌-◌, ◌≤◌, ◌<◌}
use native.Mathlib.Numerals.{add-one}
use native.Mathlib.Omega.{arith}
use lib.Dec.{ltb}
use lib.ListN.{length, get_or, drop, length-append, drop_of_length-le}
use lib.Seq.{drop-cons}
use borrow.Author.Tests.{ltb-true, ltb-false}
use borrow.Rule.Slice.PartMut.{mid_of, put_mid}
use Rattle.lists.specs.Lists.{keep}
use Rattle.lists.proofs.Tests.{cases, truth}
use Rattle.fields.specs.Written.{Wrote}
use Rattle.archive_cells.specs.Writing.{Writing}
use Rattle.archive_cells.specs.WritingLaws.{writing_none, writing_more, writing_room, writing_done}
use Rattle.text_decimals.specs.Decimals.{decimal}
use Rattle.small_model.specs.Small.{from, up_to}
use Rattle.small_model.specs.Tally.{tally, most_entries, occurring, fields}
use Rattle.small_lines.specs.Lines.{gap, spaced, line, report, pair_text, text_from}

pub gap_is : (n : ℕ) → gap n ≡ (32 ∷ []) ++ decimal n
unfolding gap
gap_is n = refl

pub gap_length : (n : ℕ) → length (gap n) ≡ 1 + length (decimal n)
gap_length n = rw (gap_is n) (omega arith)

pub pair_is : (n c : ℕ) → pair_text n c ≡ gap n ++ gap c
unfolding pair_text
pair_is n c = refl

pub pair_length : (n c : ℕ) → length (pair_text n c) ≡ length (gap n) + length (gap c)
pair_length n c = ap length (pair_is n c) ∙ length-append (gap n) (gap c)

-- ---- the tallies from n entries on are left to write

text_none : (k c : ℕ) (l : List ℕ) → c ≡ 0 → text_from k (c ∷ l) ≡ text_from (suc k) l
unfolding text_from
text_none k zero l h = refl
text_none k (suc c) l h = absurd (omega (arith, h))

text_some : (k c : ℕ) (l : List ℕ) → (c ≡ 0 → ⊥) → text_from k (c ∷ l) ≡ pair_text k c ++ text_from (suc k) l
unfolding text_from
text_some k zero l h = absurd (h refl)
text_some k (suc c) l h = refl

module _ (s : List ℕ) where
  abbrev text_left : ℕ → List ℕ
  text_left n = text_from n (drop n s)

  pub texts_none : (l : List ℕ) → Writing (text_from 0 s) (text_left 0) l l 0
  texts_none l = writing_none (text_from 0 s) l

  text_nought : (n : ℕ) → n < length s → get_or s n 0 ≡ 0 → text_left n ≡ text_left (n + 1)
  text_nought n h e = rw (add-one, drop-cons s n 0 h) (text_none n (get_or s n 0) (drop (suc n) s) e)

  text_pair : (n : ℕ) → n < length s → (get_or s n 0 ≡ 0 → ⊥) → text_left n ≡ pair_text n (get_or s n 0) ++ text_left (n + 1)
  text_pair n h e = rw (add-one, drop-cons s n 0 h) (text_some n (get_or s n 0) (drop (suc n) s) e)

  module _ {n : ℕ} {l m : List ℕ} {at : ℕ} (w : Writing (text_from 0 s) (text_left n) l m at) where
    pub texts_skip : n < length s → get_or s n 0 ≡ 0 → Writing (text_from 0 s) (text_left (n + 1)) l m at
    texts_skip h e = subst (λ (left : List ℕ). Writing (text_from 0 s) left l m at) (text_nought n h e) w

    abbrev on : n < length s → (get_or s n 0 ≡ 0 → ⊥) → Writing (text_from 0 s) (pair_text n (get_or s n 0) ++ text_left (n + 1)) l m at
    on h e = subst (λ (left : List ℕ). Writing (text_from 0 s) left l m at) (text_pair n h e) w

    pub texts_room : n < length s → (get_or s n 0 ≡ 0 → ⊥) → length (text_from 0 s) ≤ length l → at + length (pair_text n (get_or s n 0)) ≤ length m
    texts_room h e k = writing_room (pair_text n (get_or s n 0)) (text_left (n + 1)) (on h e) k

    pub texts_more : {r : List ℕ} {k : ℕ} → n < length s → (get_or s n 0 ≡ 0 → ⊥) → Wrote (pair_text n (get_or s n 0)) (mid_of at (length m - at) m) r k
        → Writing (text_from 0 s) (text_left (n + 1)) l (put_mid at (length m - at) m r) (at + k)
    texts_more h e v = writing_more (pair_text n (get_or s n 0)) (text_left (n + 1)) (on h e) v

    pub texts_done : length s ≤ n → Wrote (text_from 0 s) l m at
    unfolding text_from
    texts_done h = writing_done (subst (λ (r : List ℕ). Writing (text_from 0 s) (text_from n r) l m at) (drop_of_length-le s {i = n} h) w)

-- ---- the line

-- numbers of entries, each with its tally, of those that occur
abbrev shown : (ℕ → ℕ) → List ℕ → List ℕ
shown f l = flat_map gap (flat_map (λ n. n ∷ f n ∷ []) (keep (λ n. ltb 0 (f n)) l))

text_one : (f : ℕ → ℕ) (k : ℕ) (l : List ℕ) → text_from (suc k) (map f l) ≡ shown f l → text_from k (map f (k ∷ l)) ≡ shown f (k ∷ l)
unfolding flat_map
text_one f k l h = cases (truth (ltb 0 (f k)))
    (λ t. text_some k (f k) (map f l) (λ e. omega (arith, e, ltb-true 0 (f k) t)) ∙ rw (t, pair_is k (f k), append_assoc, h))
    (λ t. text_none k (f k) (map f l) (omega (arith, ltb-false 0 (f k) t)) ∙ rw (t, h))

text_shown : (f : ℕ → ℕ) (k n : ℕ) → text_from k (map f (from k n)) ≡ shown f (from k n)
unfolding flat_map text_from
text_shown f k zero = refl
text_shown f k (suc n) = text_one f k (from (suc k) n) (text_shown f (suc k) n)

pub line-is : (d : ℕ) (s : List ℕ) → s ≡ map (tally d) (up_to (suc (most_entries d))) → line d ≡ (decimal d ++ text_from 0 s) ++ (10 ∷ [])
unfolding line spaced fields occurring
line-is d s e = ap (λ (l : List ℕ). (decimal d ++ l) ++ (10 ∷ [])) (sym (ap (text_from 0) e ∙ text_shown (tally d) 0 (suc (most_entries d))))

pub line-length : (d : ℕ) (s : List ℕ) → s ≡ map (tally d) (up_to (suc (most_entries d))) → length (line d) ≡ length (decimal d) + length (text_from 0 s) + 1
line-length d s e =
    ap length (line-is d s e) ∙ length-append (decimal d ++ text_from 0 s) (10 ∷ []) ∙ ap (λ (n : ℕ). n + 1) (length-append (decimal d) (text_from 0 s))

-- ---- the report

pub report_is : report ≡ (line 1 ++ line 2) ++ line 3
unfolding report
report_is = sym (append_assoc (line 1) (line 2) (line 3))

pub report-length : length report ≡ length (line 1) + length (line 2) + length (line 3)
report-length = ap length report_is ∙ length-append (line 1 ++ line 2) (line 3) ∙ ap (λ (n : ℕ). n + length (line 3)) (length-append (line 1) (line 2))
