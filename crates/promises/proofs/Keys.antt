-- C-12: the keys of any accepted archive, and which codes fix which.
use mathlib.Core.Path.{◌≡◌, sym, ap, ◌∙◌}
use mathlib.Core.Logic.{◌≢◌, ◌↔◌}
use mathlib.Core.Bool.{true, false}
use mathlib.Core.List.{List, [], ◌∷◌}
use Prim.Native.Nat.{ℕ, ◌^◌, ◌<◌, ◌≤◌}
use lib.ListN.{length, take}
use Rattle.std.specs.Prelude.{Ok}
use Rattle.lists.specs.Lists.{◌∈◌}
use Rattle.lists.specs.Order.{Rising}
use Rattle.fields.specs.Words.{words}
use Rattle.lattice.specs.Sets.{before, full, sets, holds}
use Rattle.lattice.proofs.Sets.{sets_of}
use Rattle.fields_walk.specs.Parsed.{got}
use Rattle.fields_walk.specs.Limits.{Bytes}
use Rattle.cube.specs.Measure.{codes_of}
use Rattle.cube.specs.Codes.{agree, plain}
use Rattle.cube.specs.Keys.{key, least_keys, dimension}
use Rattle.cube.proofs.Promises as theory
use Rattle.archive_entries.specs.Layout.{Held}
use Rattle.archive_entries.specs.Reading.{read_archive, rows_in}
use Rattle.archive_cells.specs.ListBytes.{list_bytes}
use Rattle.call_answers.specs.Answers.{bytes, Answered}
use Rattle.call_answers.specs.Keys.{lists_keys, tells_fixed}
use Rattle.call_answers.proofs.Answers.{answered-bytes}
use Rattle.call_answers.proofs.Keys as keyed
use Rattle.promises.proofs.Promises.{rows-base}

module _ (s : List ℕ) (a : Held) (b : Bytes s) (e : read_archive s ≡ got a []) where
  -- its dimensions
  abbrev d : ℕ
  d = length a.sizes

  -- the codes of its base rows
  abbrev codes : List (List ℕ)
  codes = codes_of (rows_in a)

  -- The one call lists the smallest keys, how many there are, then their set numbers
  pub keys-listed : lists_keys s ≡ bytes (list_bytes (least_keys (plain d) codes))
  keys-listed = keyed.keys-listed s a b e

  -- in lattice order (the fields that it wrote are these):
  pub keys-read : {n : ℕ} {l m : List ℕ} → Answered (lists_keys s) l m (Ok n) → words (take n m) ≡ length (least_keys (plain d) codes) ∷ least_keys (plain d) codes
  keys-read {n} {l} {m} w =
      let x : bytes (list_bytes (least_keys (plain d) codes)) ≡ bytes (take n m) = sym keys-listed ∙ answered-bytes w in
      let y : take n m ≡ list_bytes (least_keys (plain d) codes) = cc x in
      ap words y ∙ keyed.keys-words s a b e

  pub keys-order : Rising before (least_keys (plain d) codes)
  keys-order = theory.keys-order d codes (rows-base s a b e)

  -- each key that holds no other key, and nothing else;
  pub keys-smallest : (m : ℕ) → (m ∈ least_keys (plain d) codes) ↔ ((m ∈ sets d) × (key (plain d) codes m ≡ true) × ((t : ℕ) → t ∈ sets d → key (plain d) codes t ≡ true → holds d m t ≡ true → t ≡ m))
  keys-smallest = theory.smallest-keys d codes (rows-base s a b e)

  -- with no base row or one, the empty set alone.
  pub keys_of_few : length (rows_in a) ≤ 1 → lists_keys s ≡ bytes (list_bytes (0 ∷ []))
  keys_of_few = keyed.keys_of_few s a b e

  -- The full set is always a key.
  pub full-key : key (plain d) codes (full d) ≡ true
  full-key = theory.full-key d codes (rows-base s a b e)

  module _ {set : ℕ} (h : set < 2 ^ d) where
    -- A set is a key just if no two base rows agree on it,
    pub key_apart : (key (plain d) codes set ≡ true) ↔ ((x y : List ℕ) → x ∈ codes → y ∈ codes → x ≢ y → agree set x y ≡ false)
    key_apart = theory.key_iff d codes (rows-base s a b e) set

    -- just if it holds a listed one,
    pub key-holds : (key (plain d) codes set ≡ true) ↔ ((m : ℕ) × (m ∈ least_keys (plain d) codes) × (holds d set m ≡ true))
    key-holds = theory.key-holds d codes (rows-base s a b e) (sets_of d h)

    -- and just if the other call says yes for every dimension.
    pub key-fixes : (key (plain d) codes set ≡ true) ↔ ((i : ℕ) → 1 ≤ i → i ≤ d → tells_fixed s set i ≡ Ok true)
    key-fixes = keyed.key-fixes s a b e h

    -- It says yes just if base rows that agree on the set agree on the dimension,
    pub fixes_yes : (i : ℕ) → 1 ≤ i → i ≤ d → (tells_fixed s set i ≡ Ok true) ↔ ((x y : List ℕ) → x ∈ codes → y ∈ codes → agree set x y ≡ true → agree (dimension i) x y ≡ true)
    fixes_yes = keyed.fixes_yes s a b e h

    -- and so for each of the set's own dimensions.
    pub fixes-own : (i : ℕ) → 1 ≤ i → i ≤ d → holds d set (dimension i) ≡ true → tells_fixed s set i ≡ Ok true
    fixes-own = keyed.fixes-own s a b e h
