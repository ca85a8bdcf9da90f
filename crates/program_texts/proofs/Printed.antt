-- What each answer of the library makes the programs print.
use mathlib.Core.Path.{◌≡◌, refl, sym, ap, ◌∙◌}
use mathlib.Core.Bool.{true, false, false≢true}
use mathlib.Core.List.{List, ◌++◌, append_assoc}
use Prim.Native.Nat.{ℕ, ◌≤◌, ◌<◌}
use native.Mathlib.Omega.{arith}
use lib.Dec.{leb}
use lib.ListN.{length}
use borrow.Author.Tests.{le-leb, leb-true}
use Rattle.lists.proofs.Tests.{cases, truth}
use Rattle.std.specs.Prelude.{Result, Ok, Err}
use Rattle.stops.specs.declared.Stop.{Stop}
use Rattle.stops.specs.Numbers.{number, numbered}
use Rattle.fields.specs.Written.{written, Wrote}
use Rattle.fields.specs.WrittenLaws.{length_written}
use Rattle.archive_cells.specs.WritingLaws.{wrote_as}
use Rattle.text_decimals.specs.Decimals.{ascii, decimal}
use Rattle.fields_walk.specs.Parsed.{Parsed, stop, got}
use Rattle.archive_entries.specs.Layout.{Held}
use Rattle.archive_entries.specs.Reading.{read_archive}
use Rattle.call_answers.specs.declared.Counts.{Counts}
use Rattle.call_answers.specs.Answers.{Outcome, stop as stopped, bytes, within, answer_of, left_of, Answered}
use Rattle.call_answers.specs.Calls.{builds, counted, checks}
use Rattle.text_listing.specs.Listing.{listing, held_by, Accepted}
use Rattle.program_texts.specs.Programs.{longest, refused, limited, built_text, builder, listed_text, lister}

-- ---- the line of a stop, by the parts that are written
pub refused_is : (n : ℕ) → refused n ≡ (ascii "refused " ++ decimal n) ++ ascii "\n"
unfolding refused
refused_is n = sym (append_assoc (ascii "refused ") (decimal n) (ascii "\n"))

-- ---- an input that is too long, and one that is not
long_text : (s text : List ℕ) → longest < length s → limited s text ≡ ascii "too long\n"
long_text s text h = cases (truth (leb (length s) longest)) (λ e. let z = leb-true (length s) longest e in absurd (omega (arith, z))) (λ e. rw e)

pub short_text : (s text : List ℕ) → length s ≤ longest → limited s text ≡ text
short_text s text h = rw (le-leb (length s) longest h)

pub builder_long : (s : List ℕ) → longest < length s → builder s ≡ ascii "too long\n"
unfolding builder
builder_long s h = long_text s (built_text (within longest (builds s))) h

pub lister_long : (s : List ℕ) → longest < length s → lister s ≡ ascii "too long\n"
unfolding lister
lister_long s h = long_text s (listed_text (read_archive s)) h

-- ---- the builder

-- what is written within a room fits it
within-fits : (room : ℕ) (o : Outcome) {xs : List ℕ} → within room o ≡ bytes xs → length xs ≤ room
within-fits room (stopped n) e = let z : false ≡ true = cc e in absurd (false≢true z)
within-fits room (bytes ys) {xs} e = cases (truth (leb (length ys) room))
    (λ f. let g : bytes ys ≡ bytes xs = rw f at e in let q : ys ≡ xs = cc g in rw (← q) (leb-true (length ys) room f))
    (λ f. let g : stopped 15 ≡ bytes xs = rw f at e in let z : false ≡ true = cc g in absurd (false≢true z))

module _ (s : List ℕ) {l m : List ℕ} (h : length s ≤ longest) (k : length l ≡ longest) {r : Result ℕ Stop} (w : Answered (builds s) l m r) where
  short-builder : builder s ≡ built_text (within (length l) (builds s))
  unfolding builder
  short-builder = short_text s (built_text (within longest (builds s))) h ∙ ap (λ (n : ℕ). built_text (within n (builds s))) (sym k)

  pub builder-refused : {e : Stop} → r ≡ Err e → (builder s ≡ refused (number e)) × (m ≡ l)
  builder-refused {e} h = go (within (length l) (builds s)) refl
    where
      go : (o : Outcome) → within (length l) (builds s) ≡ o → (builder s ≡ refused (number e)) × (m ≡ l)
      go (stopped j) q = let f : Err j ≡ Err (number e) = sym (ap answer_of q) ∙ sym w.answer ∙ ap numbered h in (short-builder ∙ ap built_text q ∙ ap refused (cc f), w.output ∙ ap (λ (p : Outcome). left_of p l) q)
      go (bytes xs) q = let f : Ok (length xs) ≡ Err (number e) = sym (ap answer_of q) ∙ sym w.answer ∙ ap numbered h in let z : false ≡ true = cc f in absurd (false≢true z)

  pub builder-wrote : {n : ℕ} → r ≡ Ok n → Wrote (builder s) l m n
  builder-wrote {n} e = go (within (length l) (builds s)) refl
    where
      go : (o : Outcome) → within (length l) (builds s) ≡ o → Wrote (builder s) l m n
      go (stopped j) q = let f : Err j ≡ Ok n = sym (ap answer_of q) ∙ sym w.answer ∙ ap numbered e in let z : false ≡ true = cc f in absurd (false≢true z)
      go (bytes xs) q =
          let f : Ok (length xs) ≡ Ok n = sym (ap answer_of q) ∙ sym w.answer ∙ ap numbered e in
          let g : m ≡ written xs l = w.output ∙ ap (λ (p : Outcome). left_of p l) q in
          let t : xs ≡ builder s = sym (short-builder ∙ ap built_text q) in
          wrote_as t (record { count = cc f; same = ap length g ∙ length_written xs l (within-fits (length l) (builds s) q); list = g })

-- ---- the lister
pub lister-short : (s : List ℕ) → length s ≤ longest → lister s ≡ listed_text (read_archive s)
unfolding lister
lister-short s h = short_text s (listed_text (read_archive s)) h

pub lister-refused : (s : List ℕ) {n : ℕ} → length s ≤ longest → checks s ≡ Err n → lister s ≡ refused n
unfolding checks
lister-refused s {n} h e = lister-short s h ∙ go (read_archive s) e
  where
    go : (p : Parsed Held) → counted p ≡ Err n → listed_text p ≡ refused n
    go (stop k) q = ap refused (cc q)
    go (got a rest) q = let z : false ≡ true = cc q in absurd (false≢true z)

pub accepted : (s : List ℕ) {k : Counts} → checks s ≡ Ok k → (d : ℕ) × Accepted s d k.bases k.cells
unfolding checks
accepted s {k} e = go (read_archive s) refl e
  where
    go : (p : Parsed Held) → read_archive s ≡ p → counted p ≡ Ok k → (d : ℕ) × Accepted s d k.bases k.cells
    go (stop n) q f = let z : false ≡ true = cc f in absurd (false≢true z)
    go (got a rest) q f =
        let g : record { bases = length a.bases; cells = length a.cells } ≡ k = cc f in
        (length a.sizes, record { held = a; rest = rest; read = q; dims = refl; bases = ap (λ (x : Counts). x.bases) (sym g); cells = ap (λ (x : Counts). x.cells) (sym g) })

pub lister-listing : (s : List ℕ) {d n m : ℕ} → length s ≤ longest → Accepted s d n m → lister s ≡ listing (held_by (read_archive s))
lister-listing s h x = lister-short s h ∙ rw x.read
