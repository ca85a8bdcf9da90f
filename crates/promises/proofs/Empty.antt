-- C-14: an accepted archive without base rows has one cell, all ALL, with sum 0 and count 0, which is its entry 0; it is 32 bytes long, and 8 more for each dimension.
use mathlib.Core.Path.{◌≡◌, refl, sym, ap, ap₂, subst, ◌∙◌}
use mathlib.Core.Logic.{◌≢◌}
use mathlib.Core.Bool.{true}
use mathlib.Core.List.Memᴰ
use mathlib.Core.List.{List, [], ◌∷◌}
use Prim.Native.Nat.{ℕ, ◌+◌, ◌*◌}
use native.Mathlib.Omega.{arith}
use lib.Dec.{ltb}
use lib.IntN.{pos}
use lib.ListN.{length, replicate, length-map}
use Rattle.std.specs.Prelude.{Some, None, Ok}
use Rattle.lists.proofs.Tests.{cases, truth}
use Rattle.fields_walk.specs.Parsed.{got}
use Rattle.fields_walk.specs.Limits.{Bytes}
use Rattle.cube.specs.declared.Total.{Total}
use Rattle.cube.specs.Measure.{sums, Row, codes_of}
use Rattle.cube.specs.Codes.{ALL, plain}
use Rattle.cube.specs.Cube.{Exists}
use Rattle.cube.specs.Condensed.{lookup, normals, ours}
use Rattle.cube.proofs.Codes.{plain_laws}
use Rattle.cube.proofs.Empty.{normals-none}
use Rattle.cube.proofs.Promises.{empty-answer}
use Rattle.archive_entries.specs.Layout.{Held, required, archive_bytes, Limits}
use Rattle.archive_entries.specs.Reading.{read_archive, rows_in}
use Rattle.archive_entries.proofs.Accepted.{archive_forth}
use Rattle.archive_entries.proofs.Lengths.{archive_length}
use Rattle.call_questions.specs.Questions.{asks}
use Rattle.call_answers.specs.Calls.{counted, checks, told, looks_up}
use Rattle.promises.proofs.Promises.{looked, no_record_just_if}

asks-all : (zs : List ℕ) → asks zs (replicate (length zs) ALL) ≡ true
asks-all [] = refl
asks-all (z ∷ zs) = cases (truth (ltb ALL z)) (λ e. rw e (asks-all zs)) (λ e. rw e (asks-all zs))

normals-one : (d : ℕ) → length (normals (plain d) []) ≡ 1
normals-one d = ap length (normals-none (plain d) (plain_laws d) sums)

bytes-none : (zs : List ℕ) → Limits zs [] → length (archive_bytes zs []) ≡ 32 + 8 * length zs
unfolding required
bytes-none zs l = omega (arith, archive_length zs [] l, ap (λ (n : ℕ). n * (4 * length zs + 12)) (normals-one (length zs)))

module _ (s : List ℕ) (a : Held) (b : Bytes s) (e : read_archive s ≡ got a []) (n : rows_in a ≡ []) where
  abbrev d : ℕ
  d = length a.sizes

  -- Asked for all ALL it answers sum 0, count 0, entry 0;
  pub empty-looked : looks_up s (replicate d ALL) ≡ Ok (Some (record { sum = pos 0; count = 0; entry = 0 }))
  empty-looked =
      looked s a b e (replicate d ALL) (asks-all a.sizes)
      ∙ ap (λ (rows : List (Row Total)). told (lookup (plain d) (replicate d ALL) (ours (plain d) sums rows))) n ∙ ap told (empty-answer sums d)

  -- for every other cell, 'no record'.
  pub empty_elsewhere : (q : List ℕ) → asks a.sizes q ≡ true → q ≢ replicate d ALL → looks_up s q ≡ Ok None
  empty_elsewhere q k h = (no_record_just_if s a b e q k).1 (λ x. none (subst (λ (rows : List (Row Total)). Exists (plain d) (codes_of rows) q) n x))
    where
      none : Exists (plain d) [] q → ⊥
      none x = cases x (λ r. Memᴰ.not-nil r.1) (λ i. h (Memᴰ.eq_of_singleton i))

  -- It has no base entry and one normal entry,
  pub empty-checked : checks s ≡ Ok (record { bases = 0; cells = 1 })
  unfolding checks required
  empty-checked =
      ap counted e ∙ ap₂ (λ (m n : ℕ). Ok (record { bases = m; cells = n })) (sym (length-map a.bases (λ r. r.row)) ∙ ap length n)
      (ap (λ (h : Held). length h.cells) (archive_forth s a [] b e).2 ∙ length-map (normals (plain d) (codes_of (rows_in a))) _
      ∙ ap (λ (rows : List (Row Total)). length (normals (plain d) (codes_of rows))) n ∙ normals-one d)

  -- and is so long.
  pub empty-length : length s ≡ 32 + 8 * d
  empty-length =
      let f = archive_forth s a [] b e in
      ap length f.1 ∙ ap (λ (rows : List (Row Total)). length (archive_bytes a.sizes rows)) n ∙ bytes-none a.sizes (subst (Limits a.sizes) n f.0)
