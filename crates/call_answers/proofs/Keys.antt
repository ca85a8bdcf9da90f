-- What the two calls on keys say of any accepted archive (document 02, C-12).
use mathlib.Core.Path.{◌≡◌, refl, sym, ap, ◌∙◌}
use mathlib.Core.Logic.{◌↔◌}
use mathlib.Core.Bool.{true}
use mathlib.Core.List.Memᴰ
use mathlib.Core.List.{List, [], ◌∷◌}
use Prim.Native.Nat.{ℕ, ◌^◌, ◌≤◌, ◌<◌}
use native.Mathlib.Omega.{arith}
use lib.Dec.{T}
use lib.ListN.{length, length-map}
use lib.Pow.{pow_mono}
use borrow.Author.Tests.{lt-ltb, le-leb}
use Rattle.std.specs.Prelude.{Ok}
use Rattle.lists.specs.Lists.{◌∈◌}
use Rattle.lattice.specs.Sets.{holds}
use Rattle.lattice.proofs.Sets.{sets-in}
use Rattle.fields.specs.Words.{words, are_words}
use Rattle.fields_check.specs.ReadBack.{words_read}
use Rattle.fields_walk.specs.Parsed.{got}
use Rattle.fields_walk.specs.Limits.{Bytes}
use Rattle.cube.specs.Measure.{codes_of}
use Rattle.cube.specs.Codes.{agree, plain}
use Rattle.cube.specs.Condensed.{Base}
use Rattle.cube.specs.Keys.{key, least_keys, fixes, dimension}
use Rattle.cube.proofs.Promises as theory
use Rattle.archive_entries.specs.Layout.{Held}
use Rattle.archive_entries.specs.Reading.{read_archive, rows_in}
use Rattle.archive_entries.proofs.Accepted.{archive_forth}
use Rattle.archive_entries.proofs.Limits.{limits-base}
use Rattle.archive_cells.specs.ListBytes.{list_bytes, list_length}
use Rattle.call_answers.specs.Answers.{bytes}
use Rattle.call_answers.specs.Keys.{lists_keys, tells_fixed}

-- numbers that are all below 2 to the power 32 are words
are_words_lem : (ws : List ℕ) → ((w : ℕ) → w ∈ ws → w < 2 ^ 32) → T (are_words ws)
are_words_lem [] h = tt
are_words_lem (w ∷ ws) h = rw (lt-ltb w (2 ^ 32) (h w (Memᴰ.head refl))) (are_words_lem ws (λ v m. h v (Memᴰ.tail m)))

-- 284 bytes at most are listed, whatever follows
pub keys-short : (s : List ℕ) (a : Held) (rest : List ℕ) → Bytes s → read_archive s ≡ got a rest → length (list_bytes (least_keys (plain (length a.sizes)) (codes_of (rows_in a)))) ≤ 284
keys-short s a rest b e =
    let l = (archive_forth s a rest b e).0 in
    let d = length a.sizes in
    let xs = codes_of (rows_in a) in
    omega (arith, list_length (least_keys (plain d) xs), theory.keys-at-most_70 d xs (limits-base a.sizes (rows_in a) l) l.sized.few)

module _ (s : List ℕ) (a : Held) (b : Bytes s) (e : read_archive s ≡ got a []) where
  -- its dimensions, and the codes of its base rows
  abbrev d : ℕ
  d = length a.sizes

  abbrev xs : List (List ℕ)
  xs = codes_of (rows_in a)

  rows-base : Base (plain d) xs
  rows-base = let l = (archive_forth s a [] b e).0 in limits-base a.sizes (rows_in a) l

  -- the one call lists the smallest keys,
  pub keys-listed : lists_keys s ≡ bytes (list_bytes (least_keys (plain d) xs))
  unfolding lists_keys
  keys-listed = rw e

  -- whose fields are how many there are, then each,
  pub keys-words : words (list_bytes (least_keys (plain d) xs)) ≡ length (least_keys (plain d) xs) ∷ least_keys (plain d) xs
  unfolding list_bytes
  keys-words =
      let l = (archive_forth s a [] b e).0 in
      let ks = least_keys (plain d) xs in
      let short : length ks < 2 ^ 32 = omega (arith, theory.keys-at-most_70 d xs rows-base l.sized.few) in
      words_read (length ks ∷ ks) (rw (lt-ltb (length ks) (2 ^ 32) short) (are_words_lem ks (λ m i. omega (arith, sets-in d ((theory.smallest-keys d xs rows-base m).0 i).0, pow_mono l.sized.few))))

  -- with no base row or one the empty set alone;
  pub keys_of_few : length (rows_in a) ≤ 1 → lists_keys s ≡ bytes (list_bytes (0 ∷ []))
  keys_of_few h = keys-listed ∙ ap (λ (l : List ℕ). bytes (list_bytes l)) (theory.keys_of_few d xs rows-base (omega (arith, h, length-map (rows_in a) (λ r. r.codes))))

  module _ {set : ℕ} (h : set < 2 ^ d) where
    told : (i : ℕ) → 1 ≤ i → i ≤ d → tells_fixed s set i ≡ Ok (fixes (plain d) xs set (dimension i))
    unfolding tells_fixed
    told i k l = rw (e, lt-ltb set (2 ^ d) h, le-leb 1 i k, le-leb i d l)

    told_yes : (i : ℕ) → 1 ≤ i → i ≤ d → (tells_fixed s set i ≡ Ok true) ↔ (fixes (plain d) xs set (dimension i) ≡ true)
    told_yes i k l = (λ q. cc (sym (told i k l) ∙ q), λ q. told i k l ∙ ap Ok q)

    -- the other says yes just if base rows that agree on the set agree on the dimension:
    pub fixes_yes : (i : ℕ) → 1 ≤ i → i ≤ d → (tells_fixed s set i ≡ Ok true) ↔ ((x y : List ℕ) → x ∈ xs → y ∈ xs → agree set x y ≡ true → agree (dimension i) x y ≡ true)
    fixes_yes i k l = let r = theory.fixes_iff d xs rows-base set (dimension i) in (λ q. r.0 ((told_yes i k l).0 q), λ q. (told_yes i k l).1 (r.1 q))

    -- for each dimension just if the set is a key,
    pub key-fixes : (key (plain d) xs set ≡ true) ↔ ((i : ℕ) → 1 ≤ i → i ≤ d → tells_fixed s set i ≡ Ok true)
    key-fixes = let r = theory.key-fixes d xs rows-base set in (
      λ q i k l. (told_yes i k l).1 (r.0 q i k l),
      λ q. r.1 (λ i k l. (told_yes i k l).0 (q i k l)),
    )

    -- and for each of the set's own.
    pub fixes-own : (i : ℕ) → 1 ≤ i → i ≤ d → holds d set (dimension i) ≡ true → tells_fixed s set i ≡ Ok true
    fixes-own i k l q = (told_yes i k l).1 (theory.fixes-own d xs rows-base set (dimension i) q)
