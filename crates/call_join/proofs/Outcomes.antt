-- What the call's outcome is for two archives: a stop of either, or by the base rows that their arrays hold.
use mathlib.Core.Path.{◌≡◌, refl, sym, ap, ap₂, subst, ◌∙◌}
use mathlib.Core.Logic.{◌≢◌}
use mathlib.Core.Bool.{Bool, ◌&&◌, true, false, false≢true}
use mathlib.Core.List.{List, [], ◌∷◌}
use Prim.Native.Nat.{ℕ, ◌+◌, ◌*◌, ◌≤◌}
use native.Mathlib.Omega.{arith}
use lib.Dec.{eqb}
use lib.ListN.{length, take}
use lib.Seq.{length-take-le}
use lib.Pointwise.{pointwise}
use Rattle.std.specs.Prelude.{Ok, Err}
use Rattle.lists.specs.Order.{same}
use Rattle.lists.proofs.Tests.{refuted}
use Rattle.lists.proofs.Order.{same-eq}
use Rattle.fields.specs.Words.{words_at}
use Rattle.fields.specs.WordsLaws.{length_words_at}
use Rattle.cube.specs.declared.Total.{Total}
use Rattle.cube.specs.Measure.{Row, sums as totals}
use Rattle.rows.specs.Rows.{rows_of}
use Rattle.fields_walk.proofs.Places.{header_read}
use Rattle.fields_walk.specs.Parsed.{Parsed, stop as halt, got}
use Rattle.archive_entries.specs.Layout.{CUBE, Held, Limits}
use Rattle.archive_entries.specs.Reading.{read_archive, archive_answer, rows_in}
use Rattle.archive_entries.specs.declared.Shape.{Shape}
use Rattle.archive_entries.proofs.Fields.{parts}
use Rattle.archive_entries.proofs.Accepted.{read_forth, archive_forth}
use Rattle.rows_ready.specs.Ready.{Ready}
use Rattle.rows_merge.specs.United.{united}
use Rattle.call_answers.specs.Answers.{stop}
use Rattle.call_answers.specs.Calls.{outcome}
use Rattle.call_answers.specs.Joins.{filed, unites, joins}
use Rattle.call_answers.proofs.Opened.{Opened}
use Rattle.call_ask.proofs.Outcomes.{refused}
use Rattle.call_file.specs.Stores.{Store}

pub first-refused : (s t : List ℕ) {k : ℕ} → archive_answer (read_archive s) ≡ Err k → joins s t ≡ stop k
unfolding joins
first-refused s t e = rw (refused s e)

pub second-refused : (s t : List ℕ) {e : Shape} {k : ℕ} → archive_answer (read_archive s) ≡ Ok e → archive_answer (read_archive t) ≡ Err k → joins s t ≡ stop k
unfolding joins
second-refused s t {e} {k} h f = go (read_archive s) h
  where
    go : (p : Parsed Held) → archive_answer p ≡ Ok e → outcome (λ a. outcome (unites a) (read_archive t)) p ≡ stop k
    go (halt j) g = let z : false ≡ true = cc in absurd (false≢true z)
    go (got a rest) g = rw (refused t f)

-- what `==` says of slices of words
pub same-pointwise : (x y : List ℕ) → pointwise eqb x y ≡ same x y
same-pointwise [] [] = refl
same-pointwise [] (b ∷ y) = refl
same-pointwise (a ∷ x) [] = refl
same-pointwise (a ∷ x) (b ∷ y) = ap (λ (t : Bool). eqb a b && t) (same-pointwise x y)

-- an archive's sizes and rows, as they stand in its bytes and in a flat list
module _ {s : List ℕ} {d n m : ℕ} {ws : List ℕ} (o : Opened s d n m ws) where
  -- the sizes stand within the bytes
  pub opened_sizes : 8 + 4 * d ≤ length s
  opened_sizes = let h = header_read s CUBE (parts s (read_forth s o.read).0).2 in omega (arith, h.whole, h.dims, o.dims)

  opened_rows : rows_of (length (words_at s d 8)) n ws ≡ rows_in o.held
  opened_rows = ap (λ (i : ℕ). rows_of i n ws) (length_words_at s d 8) ∙ o.rows

  pub opened_store : {zs : List ℕ} → zs ≡ words_at s d 8 → Store zs n ws
  opened_store z = subst (λ (l : List ℕ). Store l n ws) (sym z) (record {
    ready = subst (λ (i : ℕ). Ready i n ws) (sym (length_words_at s d 8)) o.ready;
    limits = subst (Limits (words_at s d 8)) (sym opened_rows) (subst (λ (zs : List ℕ). Limits zs (rows_in o.held)) o.sizes (archive_forth s o.held [] o.are o.read).0);
  })

-- two slices of base rows, of the sizes zs, as one are what two archives join to
abbrev pub Joined : (s t zs : List ℕ) (d n : ℕ) (ws : List ℕ) (d' m : ℕ) (ws' : List ℕ) → Type 0
Joined s t zs d n ws d' m ws' = Store zs n ws × Store zs m ws' × (joins s t ≡ filed zs (united totals (length zs) (rows_of d n ws) (rows_of d' m ws')))

-- whether the sizes in the front of two buffers are the same
pub told_in : (s t l : List ℕ) {d : ℕ} {b : Bool} → d ≤ length l → b ≡ same (words_at s (length (take d l)) 8) (words_at t (length (take d l)) 8) → b ≡ same (words_at s d 8) (words_at t d 8)
told_in s t l {d} {b} h e = subst (λ (n : ℕ). b ≡ same (words_at s n 8) (words_at t n 8)) (length-take-le d l h) e

module _ {s t : List ℕ} {d d' n n' m m' : ℕ} {ws ws' : List ℕ} (o : Opened s d n m ws) (p : Opened t d' n' m' ws') where
  apart : same (words_at s d 8) (words_at t d' 8) ≡ false → joins s t ≡ stop 17
  unfolding joins
  apart e = rw (o.read, p.read, o.sizes, p.sizes, e)

  pub joins-dims : d ≢ d' → joins s t ≡ stop 17
  joins-dims h = apart (refuted (λ e. h (sym (length_words_at s d 8) ∙ ap length (same-eq (words_at s d 8) (words_at t d' 8) e) ∙ length_words_at t d' 8)))

  -- of as many dimensions
  module _ {k : ℕ} (e : d ≡ k) (f : d' ≡ k) where
    first : words_at s d 8 ≡ words_at s k 8
    first = ap (λ (i : ℕ). words_at s i 8) e

    second : words_at t d' 8 ≡ words_at t k 8
    second = ap (λ (i : ℕ). words_at t i 8) f

    pub joins-sizes : false ≡ same (words_at s k 8) (words_at t k 8) → joins s t ≡ stop 17
    joins-sizes h = apart (ap₂ same first second ∙ sym h)

    pub joins-filed : true ≡ same (words_at s k 8) (words_at t k 8) → {zs : List ℕ} → zs ≡ words_at s k 8 → Joined s t zs d n ws d' n' ws'
    unfolding joins
    joins-filed h {zs} z =
        let x = z ∙ sym first in
        let y = z ∙ same-eq (words_at s k 8) (words_at t k 8) (sym h) ∙ sym second in (
          opened_store o x,
          opened_store p y,
          rw (o.read, p.read, o.sizes ∙ first, p.sizes ∙ second, ← h, ← z) (ap₂ (λ (a b : List (Row Total)). filed zs (united totals (length zs) a b)) (sym o.rows) (sym p.rows)),
        )
