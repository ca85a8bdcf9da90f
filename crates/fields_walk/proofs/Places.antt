-- Where the fields of a header that was read stand.
use mathlib.Core.Path.{◌≡◌, sym, ap, ap₂, ◌∙◌}
use mathlib.Core.List.{List}
use Prim.Native.Nat.{ℕ, ◌+◌, ◌*◌, ◌≤◌}
use native.Mathlib.Omega.{arith}
use lib.ListN.{length, drop, length-drop}
use Rattle.fields.specs.Words.{word_at, words_at}
use Rattle.fields.specs.WordsLaws.{length_words_at}
use Rattle.fields.specs.Opening.{starts_with}
use Rattle.fields_walk.specs.Parsed.{got, and_then}
use Rattle.fields_walk.specs.Fields.{field, sizes, header}
use Rattle.fields_walk.proofs.Steps.{through, passed}
use Rattle.fields_walk.proofs.Fields.{word-rest, field-got}
use Rattle.fields_walk.proofs.Found.{finds_field, finds_all}
use Rattle.fields_walk.proofs.Any.{any_word, any_got}

-- the header: D stands at place 4, and the sizes behind it
pub record Header (s zs rest : List ℕ) : Type 0 where
  pub some : 1 ≤ word_at s 4
  pub few : word_at s 4 ≤ 8
  pub dims : length zs ≡ word_at s 4
  pub are : zs ≡ words_at s (word_at s 4) 8
  pub whole : 8 + 4 * word_at s 4 ≤ length s
  pub behind : rest ≡ drop (8 + 4 * word_at s 4) s

pub header_read : (s opening : List ℕ) {zs rest : List ℕ} → header opening s ≡ got zs rest → Header s zs rest
unfolding header
header_read s opening {zs} {rest} e =
    let p = passed (starts_with s opening) (and_then (field 1 9 3 (drop 4 s)) sizes) 1 e in
    let t = through (field 1 9 3 (drop 4 s)) sizes p.1 in
    let g = field-got 1 9 3 (drop 4 s) t.2 in
    let d = word-rest s 4 (omega (arith, (any_got any_word (drop 4 s) g.0).0, length-drop 4 s)) g.0 in
    let w = (finds_all s (finds_field s 1 65536 4) (word_at s 4) 8).found zs rest d.0 (ap₂ sizes (sym d.2) (sym d.1) ∙ t.3) in
    record {
      some = omega (arith, g.1, d.2);
      few = omega (arith, g.2, d.2);
      dims = ap length w.2 ∙ length_words_at s (word_at s 4) 8;
      are = w.2;
      whole = w.0;
      behind = w.1;
    }
