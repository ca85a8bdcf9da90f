-- The ends of the walk over an archive, from its header to its check word.
use Rattle.std.specs.Prelude.{Result, Ok, Err}
use mathlib.Core.Path.{◌≡◌, sym, ap, ◌∙◌}
use mathlib.Core.List.{List}
use Prim.Native.Nat.{ℕ, ◌+◌, ◌*◌, ◌≤◌}
use native.Mathlib.Omega.{arith}
use lib.ListN.{length, drop}
use Rattle.fields.specs.Words.{word_at, words_at}
use Rattle.fields.specs.WordsLaws.{length_words_at}
use Rattle.fields_walk.specs.Parsed.{Parsed, stop, got, and_then}
use Rattle.fields_walk.specs.Fields.{header, close}
use Rattle.fields_walk.specs.Walked.{Says}
use Rattle.fields_walk.proofs.Steps.{then_on, then_off}
use Rattle.cube.specs.declared.Total.{Total}
use Rattle.cube.specs.Measure.{Row}
use Rattle.archive_entries.specs.declared.Shape.{Shape}
use Rattle.archive_entries.specs.Layout.{CUBE, Based, Held}
use Rattle.archive_entries.specs.Reading.{bases, cells, walk_archive, archive_answer}
use Rattle.fields_walk.proofs.Places.{header_read}
use Rattle.archive_entries.proofs.Entries.{bases-read}
use Rattle.archive_entries.proofs.Cells.{cells-read}

-- the header was read up to a place, and D is d
pub record Opened (s : List ℕ) (d at : ℕ) : Type 0 where
  pub read : header CUBE s ≡ got (words_at s d 8) (drop at s)
  pub inside : at ≤ length s
  pub some : 1 ≤ d
  pub few : d ≤ 8
  pub whole : 8 + 4 * d ≤ length s

pub opened : (s : List ℕ) {d at : ℕ} → Says s (header CUBE s) (Ok at) → d ≡ word_at s 4 → Opened s d at
opened s {d} {at} g e =
    let h = header_read s CUBE g.1 in
    record {
      read = g.1 ∙ ap (λ (zs : List ℕ). got zs (drop at s)) (h.are ∙ ap (λ (n : ℕ). words_at s n 8) (sym e));
      inside = g.2;
      some = omega (arith, h.some);
      few = omega (arith, h.few);
      whole = omega (arith, h.whole);
    }

-- the answer for an archive that was read
abbrev pub answer : ℕ → ℕ → ℕ → Result Shape ℕ
answer d b c = Ok (record { dims = d; bases = b; cells = c })

module _ (s : List ℕ) where
  abbrev pub closed : List ℕ → List Based → List (Row Total) → List ℕ → Parsed Held
  closed zs bs cs l = and_then (close s l) (λ u rest. got (record { sizes = zs; bases = bs; cells = cs }) rest)

  abbrev pub celled : List ℕ → List Based → List ℕ → Parsed Held
  celled zs bs l = and_then (cells (length zs) l) (closed zs bs)

  abbrev pub based : List ℕ → List ℕ → Parsed Held
  based zs l = and_then (bases zs l) (celled zs)

  pub header-stop : {n : ℕ} → header CUBE s ≡ stop n → Err n ≡ archive_answer (walk_archive s)
  unfolding walk_archive
  header-stop e = sym (ap archive_answer (then_off based e))

  module _ {d at : ℕ} (o : Opened s d at) where
    abbrev zs : List ℕ
    zs = words_at s d 8

    behind_header : walk_archive s ≡ based zs (drop at s)
    unfolding walk_archive
    behind_header = then_on based o.read

    pub bases-stop : {n : ℕ} → bases zs (drop at s) ≡ stop n → Err n ≡ archive_answer (walk_archive s)
    bases-stop e = sym (ap archive_answer (behind_header ∙ then_off (celled zs) e))

    module _ {next : ℕ} (f : Says s (bases zs (drop at s)) (Ok next)) where
      behind_bases : walk_archive s ≡ and_then (cells d (drop next s)) (closed zs f.0)
      behind_bases = behind_header ∙ then_on (celled zs) f.1 ∙ ap (λ (n : ℕ). and_then (cells n (drop next s)) (closed zs f.0)) (length_words_at s d 8)

      pub cells-stop : {n : ℕ} → cells d (drop next s) ≡ stop n → Err n ≡ archive_answer (walk_archive s)
      cells-stop e = sym (ap archive_answer (behind_bases ∙ then_off (closed zs f.0) e))

      module _ {end : ℕ} (g : Says s (cells d (drop next s)) (Ok end)) where
        behind_cells : walk_archive s ≡ closed zs f.0 g.0 (drop end s)
        behind_cells = behind_bases ∙ then_on (closed zs f.0) g.1

        pub close-stop : {n : ℕ} → close s (drop end s) ≡ stop n → Err n ≡ archive_answer (walk_archive s)
        close-stop e = sym (ap archive_answer (behind_cells ∙ then_off (λ u rest. got (record { sizes = zs; bases = f.0; cells = g.0 }) rest) e))

        -- D, the base count and the normal count stand where the walk passed them
        pub entries-told : {u : Unit {0}} {rest : List ℕ} {b c : ℕ} → close s (drop end s) ≡ got u rest → b ≡ word_at s at → c ≡ word_at s next
            → answer d b c ≡ archive_answer (walk_archive s)
        entries-told e p q =
            let n : length zs ≡ d = length_words_at s d 8 in
            let m : length f.0 ≡ _ = (bases-read s zs at o.inside f.1).count ∙ sym p in
            let k : length g.0 ≡ _ = (cells-read s d next f.2 g.1).1 ∙ sym q in
            sym (ap archive_answer (behind_cells ∙ then_on (λ u rest. got (record { sizes = zs; bases = f.0; cells = g.0 }) rest) e) ∙ rw (n, m, k))
