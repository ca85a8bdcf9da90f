-- The ends of a base entry, of the loop over base entries, and of the base count with them.
use mathlib.Core.Path.{◌≡◌, sym, ap, ◌∙◌, subst}
use mathlib.Core.List.{List, []}
use Prim.Native.Nat.{ℕ, zero, suc, ◌+◌, ◌-◌, ◌*◌, ◌≤◌, ◌<◌}
use native.Mathlib.Omega.{arith}
use lib.ListN.{length, drop}
use Rattle.fields.specs.Words.{word_at, words_at}
use Rattle.std.specs.Prelude.{Result}
use Rattle.stops.specs.declared.Stop.{Stop}
use Rattle.std.specs.Prelude.{Ok}
use Rattle.fields_walk.specs.Parsed.{Parsed, stop, got, and_then, consed}
use Rattle.fields_walk.specs.Fields.{field}
use Rattle.fields_walk.specs.Walked.{Says, Walked}
use Rattle.fields_walk.proofs.Steps.{then_on, then_off, through, walked_as, walked-map, cons_forth}
use Rattle.fields_walk.proofs.Loops.{Follows, step_on, step-off, step-done}
use Rattle.fields_walk.proofs.Fields.{word-rest, field-got}
use Rattle.cube.specs.declared.Total.{Total}
use Rattle.cube.specs.Measure.{Row}
use Rattle.archive_entries.specs.Layout.{Based}
use Rattle.archive_entries.specs.Reading.{rising, amount, list, entry, entries, bases}
use Rattle.archive_entries.proofs.Entry.{entry_read}

-- ---- an entry

module _ (zs before : List ℕ) (total : ℕ) (l : List ℕ) where
  abbrev made : List ℕ → Total → List ℕ → Based
  made x t ss = record { row = record { codes = x; total = t }; list = ss }

  abbrev listed : List ℕ → Total → List ℕ → Parsed Based
  listed x t m = and_then (list m) (λ ss rest. got (made x t ss) rest)

  abbrev counted : List ℕ → List ℕ → Parsed Based
  counted x m = and_then (amount total m) (listed x)

  pub entry-off : {n : ℕ} → rising zs before l ≡ stop n → entry zs before total l ≡ stop n
  unfolding entry
  entry-off e = then_off counted e

  module _ {x m : List ℕ} (e : rising zs before l ≡ got x m) where
    entry-codes : entry zs before total l ≡ counted x m
    unfolding entry
    entry-codes = then_on counted e

    pub entry-ended : {n : ℕ} → amount total m ≡ stop n → entry zs before total l ≡ stop n
    entry-ended f = entry-codes ∙ then_off (listed x) f

    pub entry_on : {t : Total} {k s : List ℕ} {r : Result ℕ Stop} → amount total m ≡ got t k → Walked s (list k) r → Walked s (entry zs before total l) r
    entry_on {t} f h = walked_as (entry-codes ∙ then_on (listed x) f) (walked-map (made x t) h)

-- ---- the loop over entries

module _ {s : List ℕ} (zs before : List ℕ) (total at i n : ℕ) {whole : Parsed (List Based)} (v : Follows s (entries zs (n - i) before total (drop at s)) whole) where
  abbrev more : Based → List ℕ → Parsed (List Based)
  more e = entries zs (n - (i + 1)) e.row.codes (total + e.row.total.count)

  left : i < n → entries zs (n - i) before total (drop at s) ≡ consed (entry zs before total (drop at s)) more
  unfolding entries
  left h = let e : n - i ≡ suc (n - (i + 1)) = omega arith in ap (λ (k : ℕ). entries zs k before total (drop at s)) e

  -- the next entry comes behind the codes of this one, with its count in the total
  pub entries_on : {e : Based} {w : ℕ} {rest : List ℕ} → i < n → at ≤ length s → entry zs before total (drop at s) ≡ got e rest → w ≡ word_at s (at + 4 * length zs + 8)
      → Follows s (entries zs (n - (i + 1)) (words_at s (length zs) at) (total + w) rest) whole
  entries_on {e} {w} {rest} h l f g =
      let r = (entry_read s zs before total at l f).row in
      rw g (subst (λ (x : Row Total). Follows s (entries zs (n - (i + 1)) x.codes (total + x.total.count) rest) whole) r (step_on v more (left h) f))

  pub entries-off : {k : ℕ} → i < n → entry zs before total (drop at s) ≡ stop k → whole ≡ stop k
  entries-off h e = step-off v more (left h) e

  pub entries-done : n ≤ i → at ≤ length s → Says s whole (Ok at)
  unfolding entries
  entries-done h l = let e : n - i ≡ 0 = omega arith in step-done v (ap (λ (k : ℕ). entries zs k before total (drop at s)) e) l

-- ---- the base count and the entries

module _ (zs l : List ℕ) where
  pub bases-off : {n : ℕ} → field 0 1025 5 l ≡ stop n → bases zs l ≡ stop n
  unfolding bases
  bases-off e = then_off (λ n. entries zs n [] 0) e

  pub bases_on : {n : ℕ} {rest : List ℕ} → field 0 1025 5 l ≡ got n rest → bases zs l ≡ entries zs n [] 0 rest
  unfolding bases
  bases_on e = then_on (λ n. entries zs n [] 0) e

-- as many entries were read as there are
pub entries-length : (zs : List ℕ) (n : ℕ) (before : List ℕ) (total : ℕ) (l : List ℕ) {es : List Based} {rest : List ℕ} → entries zs n before total l ≡ got es rest → length es ≡ n
unfolding entries
entries-length zs zero before total l {es} e = let f : es ≡ [] = cc in ap length f
entries-length zs (suc n) before total l e =
    let t = cons_forth (λ e. entries zs n e.row.codes (total + e.row.total.count)) (entry zs before total l) e in
    ap length t.5 ∙ ap suc (entries-length zs n t.0.row.codes (total + t.0.row.total.count) t.2 t.4)

-- the base count at a place, and the entries behind it
pub record Bases (s zs : List ℕ) (at : ℕ) (bs : List Based) (rest : List ℕ) : Type 0 where
  pub whole : at + 4 ≤ length s
  pub count : length bs ≡ word_at s at
  pub few : length bs ≤ 1024
  pub read : entries zs (length bs) [] 0 (drop (at + 4) s) ≡ got bs rest

pub bases-read : (s zs : List ℕ) (at : ℕ) {bs : List Based} {rest : List ℕ} → at ≤ length s → bases zs (drop at s) ≡ got bs rest → Bases s zs at bs rest
unfolding bases
bases-read s zs at {bs} h e =
    let t = through (field 0 1025 5 (drop at s)) (λ n. entries zs n [] 0) e in
    let f = field-got 0 1025 5 (drop at s) t.2 in
    let w = word-rest s at h f.0 in
    let n = entries-length zs t.0 [] 0 t.1 t.3 in
    record {
      whole = w.0;
      count = n ∙ w.2;
      few = omega (arith, n, f.2);
      read = rw n (ap (entries zs t.0 [] 0) (sym w.1) ∙ t.3);
    }
