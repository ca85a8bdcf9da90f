-- An archive whose fields are right is the one that its base rows require, just if what they require stands behind its sizes and nothing but the check word follows.
use mathlib.Core.Path.{◌≡◌, refl, sym, ap, subst, ◌∙◌}
use mathlib.Core.Bool.{true, false, false≢true}
use mathlib.Core.List.Memᴰ
use mathlib.Core.List.{List, [], ◌++◌, append_assoc}
use Prim.Native.Nat.{ℕ, ◌+◌, ◌-◌, ◌*◌, ◌≤◌}
use native.Mathlib.Omega.{arith}
use borrow.Author.Tests.{eqb-true, eqb-false}
use lib.Dec.{eqb}
use lib.ListN.{length, drop, length-append}
use Rattle.lists.specs.Lists.{◌∈◌, Distinct}
use Rattle.lists.specs.Order.{same}
use Rattle.lists.proofs.Tests.{cases, truth, refuted}
use Rattle.lists.proofs.Parts.{drop-front, front_same}
use Rattle.lists.proofs.Order.{same-eq, same_refl}
use Rattle.fields.specs.Words.{word_bytes, words_at}
use Rattle.fields.specs.WordsLaws.{length_words_at}
use Rattle.fields.specs.Opening.{starts_with}
use Rattle.fields.specs.OpeningLaws.{starts_append, starts_is}
use Rattle.fields_check.specs.Check.{check_of, checked}
use Rattle.fields_walk.specs.Parsed.{got}
use Rattle.fields_walk.specs.Fields.{header_bytes}
use Rattle.fields_walk.specs.Limits.{Bytes}
use Rattle.fields_walk.proofs.Lengths.{length-header}
use Rattle.cube.specs.declared.Total.{Total}
use Rattle.cube.specs.Measure.{Row, codes_of}
use Rattle.cube.specs.Codes.{Coded}
use Rattle.rows.specs.Rows.{width, rows_of}
use Rattle.rows.proofs.Rows.{rows-codes}
use Rattle.rows.proofs.Flat.{rows-length}
use Rattle.archive_entries.specs.Layout.{CUBE, Held, section, base_bytes, cell_bytes, layout, required, archive_bytes, Limits}
use Rattle.archive_entries.specs.Reading.{walk_archive}
use Rattle.std.specs.Prelude.{Err, Ok}
use Rattle.stops.specs.declared.Stop.{Stop}
use Rattle.fields_walk.proofs.Places.{header_read}
use Rattle.archive_entries.proofs.Fields.{parts}
use Rattle.archive_entries.proofs.Walkable.{walk_forth}
use Rattle.archive_entries.proofs.Entered.{walkable_limits}
use Rattle.archive_entries.proofs.Limits.{limits-summable, limits-base}
use Rattle.rows_ready.specs.Ready.{Ready}
use Rattle.rows_condense.specs.Shared.{normal_rows}
use Rattle.archive_bases.specs.Listed.{our_bases}
use Rattle.archive_compare.specs.Matched.{Matched}
use Rattle.archive_judge.specs.Read.{Read, sections}

-- the archive of sizes and base rows is the header and what the rows require, and their check word
pub archive-sections : (zs : List ℕ) (rows : List (Row Total)) → archive_bytes zs rows ≡ checked (header_bytes CUBE zs ++ sections (length zs) rows)
unfolding archive_bytes required layout sections our_bases normal_rows
archive-sections zs rows = refl

-- rows within the limits, in a flat list, are ready to be grouped
pub limits-ready : {zs : List ℕ} {rows : List (Row Total)} {d n : ℕ} {ws : List ℕ} → Limits zs rows → rows_of d n ws ≡ rows
    → length zs ≡ d → n * width d ≡ length ws → Ready d n ws
limits-ready {zs} {rows} {d} {n} {ws} l e k size =
    let base = limits-base zs rows l in
    record {
      dims = omega (arith, k, l.sized.few);
      few = omega (arith, l.few, ap length e, rows-length d n ws);
      size = size;
      table = λ q m. subst (λ (i : ℕ). Coded i q.codes) k (base.valid q.codes (Memᴰ.map (λ p. p.codes) (subst (λ (x : List (Row Total)). q ∈ x) e m)));
      summable = rw e (limits-summable zs rows l);
      distinct = subst Distinct (ap codes_of (sym e) ∙ rows-codes d n ws) base.distinct;
    }

pub read-ready : {s : List ℕ} {d n : ℕ} {ws : List ℕ} → Bytes s → Read s d n ws → Ready d n ws
read-ready {s} b r = limits-ready (walkable_limits r.held (walk_forth s r.held [] b r.walked).0) r.rows r.dims r.size

-- the sizes stand behind D
pub sizes-at : (s : List ℕ) {a : Held} → walk_archive s ≡ got a [] → a.sizes ≡ words_at s (length a.sizes) 8
sizes-at s {a} w =
    let h = header_read s CUBE (parts s w).2 in
    h.are ∙ ap (λ (n : ℕ). words_at s n 8) (sym h.dims)

-- a body that begins with the header, its check word behind it
module _ {s : List ℕ} {d : ℕ} (zs body : List ℕ) (dims : length zs ≡ d) (e : s ≡ checked (header_bytes CUBE zs ++ body)) where
  abbrev front : List ℕ
  front = header_bytes CUBE zs

  abbrev check : List ℕ
  check = word_bytes (check_of (front ++ body))

  behind : drop (8 + 4 * d) s ≡ body ++ check
  behind = drop-front front (body ++ check) (8 + 4 * d) (e ∙ append_assoc front body check) (omega (arith, length-header CUBE zs, dims))

  long : length s ≡ 8 + 4 * d + length body + 4
  long = omega (arith, ap length e, length-append (front ++ body) check, length-append front body, length-header CUBE zs, dims)

module _ {s : List ℕ} {d n : ℕ} {ws : List ℕ} (b : Bytes s) (r : Read s d n ws) where
  abbrev zs : List ℕ
  zs = words_at s d 8

  abbrev dims : length zs ≡ d
  dims = length_words_at s d 8

  abbrev table : List (Row Total)
  table = rows_of d n ws

  -- what stands behind the sizes, and what should
  abbrev own : List ℕ
  own = section base_bytes r.held.bases ++ section cell_bytes r.held.cells

  abbrev due : List ℕ
  due = sections d table

  is : s ≡ checked (header_bytes CUBE zs ++ own)
  unfolding layout
  is =
      (walk_forth s r.held [] b r.walked).1
      ∙ ap (λ (x : List ℕ). checked (header_bytes CUBE x ++ own)) (sizes-at s r.walked ∙ ap (λ (k : ℕ). words_at s k 8) r.dims)

  should : archive_bytes zs table ≡ checked (header_bytes CUBE zs ++ due)
  should = archive-sections zs table ∙ ap (λ (k : ℕ). checked (header_bytes CUBE zs ++ sections k table)) dims

  pub read-start : 8 + 4 * d + 4 ≤ length s
  read-start = omega (arith, long zs own dims is)

  right : same s (archive_bytes zs table) ≡ true → s ≡ checked (header_bytes CUBE zs ++ due)
  right e = same-eq s (archive_bytes zs table) e ∙ should

  pub other_of : {e : Stop} → Matched s (8 + 4 * d) due (Err e) → false ≡ same s (archive_bytes zs table)
  other_of m = sym (refuted (λ e. false≢true (sym m.meets.1
      ∙ ap (λ (x : List ℕ). starts_with x due) (behind zs due dims (right e)) ∙ starts_append due (check zs due dims (right e)))))

  right_of : starts_with (drop (8 + 4 * d) s) due ≡ true → length s ≡ 8 + 4 * d + length due + 4 → same s (archive_bytes zs table) ≡ true
  right_of h k =
      let l = drop (8 + 4 * d) s in
      let t = sym (behind zs own dims is) ∙ starts_is l due h in
      let e : own ≡ due = front_same own due (check zs own dims is) (drop (length due) l) t (omega (arith, k, long zs own dims is)) in
      let f : s ≡ archive_bytes zs table = is ∙ ap (λ (x : List ℕ). checked (header_bytes CUBE zs ++ x)) e ∙ sym should in
      subst (λ (x : List ℕ). same s x ≡ true) f (same_refl s)

  pub judged_of : {k : ℕ} → Matched s (8 + 4 * d) due (Ok k) → eqb (length s - k) 4 ≡ same s (archive_bytes zs table)
  judged_of {k} m = cases (truth (eqb (length s - k) 4))
      (λ e. e ∙ sym (right_of m.meets.0 (omega (arith, m.meets.1, m.meets.2, eqb-true (length s - k) 4 e))))
      (λ e. e ∙ sym (refuted (λ f. eqb-false (length s - k) 4 e (omega (arith, long zs due dims (right f), m.meets.1)))))
