-- Entries that stand at a place are read there.
use mathlib.Core.Path.{◌≡◌, sym, ap, ◌∙◌}
use mathlib.Core.List.{List, ◌++◌}
use Prim.Native.Nat.{ℕ, ◌+◌, ◌*◌, ◌≤◌}
use native.Mathlib.Omega.{arith}
use lib.ListN.{length, drop}
use Rattle.fields.specs.Words.{word_at}
use Rattle.fields.specs.WordsLaws.{length_words_at}
use Rattle.archive_entries.specs.Layout.{Based, base_bytes}
use Rattle.archive_entries.specs.Places.{base_there, width_there}
use Rattle.archive_entries.proofs.Lengths.{base-length}
use Rattle.archive_entries.proofs.There.{base_there_lem}
use Rattle.text_listing.proofs.Fits.{BaseFits}

pub base_reads : (d : ℕ) (s : List ℕ) (b : Based) → BaseFits d b → (at : ℕ) (rest : List ℕ) → at ≤ length s → drop at s ≡ base_bytes b ++ rest
    → (base_there s d at ≡ b) × (width_there s d at ≡ length (base_bytes b))
base_reads d s b f at rest h e =
    let there = base_there_lem s d b f.row f.short f.sets at rest h e in
    let sets : word_at s (at + 4 * d + 12) ≡ length b.list = sym (length_words_at s (word_at s (at + 4 * d + 12)) (at + 4 * d + 16)) ∙ ap (λ (x : Based). length x.list) there in
    (there, omega (arith, sets, base-length d b f.row.0.0))
