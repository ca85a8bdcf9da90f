-- What the proofs ask of a format, and that the archives over sets have it, in either edition.
use mathlib.Core.Path.{◌≡◌, refl, ap, ◌∙◌}
use mathlib.Core.Logic.{◌↔◌}
use mathlib.Core.Bool.{Bool, true, false, cond}
use mathlib.Core.List.Memᴰ
use mathlib.Core.List.{List, [], ◌∷◌, ◌++◌}
use Prim.Native.Nat.{ℕ, zero, suc, ◌*◌, ◌/◌, ◌%◌, ◌^◌, ◌≤◌, ◌<◌}
use native.Mathlib.Nat.{mul-le-mul_right}
use native.Mathlib.Omega.{arith}
use lib.ListN.{length, replicate}
use lib.Pow.{pow_mono}
use Rattle.lists.specs.Lists.{◌∈◌}
use Rattle.lists.proofs.Tests.{cases}
use Rattle.lattice.specs.Sets.{sets}
use Rattle.lattice.proofs.Sets.{sets-in, sets-length}
use Rattle.fields.specs.Words.{word_bytes, words_bytes}
use Rattle.fields_walk.specs.Parsed.{got}
use Rattle.fields_walk.specs.Fields.{header_bytes}
use Rattle.fields_walk.specs.Limits.{Sized, Below, Bytes}
use Rattle.fields_walk.proofs.Codec.{Codec}
use Rattle.fields_walk.proofs.Ends.{header_codec}
use Rattle.fields_walk.proofs.Limits.{below-coded}
use Rattle.cube.specs.Lattice.{Laws}
use Rattle.cube.specs.Codes.{ALL, Coded, shown, cell}
use Rattle.cube.specs.Condensed.{listed}
use Rattle.cube.proofs.Codes.{plain_laws, coded-length, length-cell}
use Rattle.cube.proofs.Antichain.{listed-short}
use Rattle.archive_entries.specs.Layout.{CUBE}
use Rattle.archive_editions.specs.Edition.{Edition, edition_one, edition_two}
use Rattle.archive_editions.specs.Format.{Format, Headed, CUB2, sets_format, one, two, format}
use Rattle.archive_editions.proofs.Editions.{Small, small_none, small_cons, Tells, one_tells, two_tells}

-- words of any value
abbrev pub Words : ℕ → List ℕ → Type 0
Words n ws = (length ws ≡ n) × Small ws

-- What a header that is read back tells: sizes, and a lattice with its laws, with nodes and cells that are words, lists that are short, and no more normal entries than
-- a word can count.
pub record Ready {H : Type 0} (F : Format H) (h : H) : Type 0 where
  pub sized : Sized (F.sizes h)
  pub laws : Laws (F.lattice h)
  pub valid : (x : List ℕ) → Below (F.sizes h) x → (F.lattice h).valid x
  pub nodes : (s : ℕ) → s ∈ (F.lattice h).nodes → s < 2 ^ 32
  pub cells : (s : ℕ) (x : List ℕ) → s ∈ (F.lattice h).nodes → Below (F.sizes h) x → Words (F.width h) ((F.lattice h).cell s x)
  pub whole : Words (F.width h) (F.lattice h).whole
  pub short : (xs : List (List ℕ)) (x : List ℕ) → length (listed (F.lattice h) xs x) < F.limit
  pub few : length (F.lattice h).nodes * 1024 < 2 ^ 31

pub record Lawful {H : Type 0} (F : Format H) : Type 0 where
  pub forth : (h : H) (l rest : List ℕ) → Bytes l → F.head l ≡ got h rest → Headed F h × (l ≡ F.head_bytes h ++ rest)
  pub bytes : (h : H) → Bytes (F.head_bytes h)
  pub ready : (h : H) → Headed F h → Ready F h
  pub tells : Tells F.edition
  pub limit : F.limit ≤ 2 ^ 32

-- headers, read and written
pub head_codec : {H : Type 0} (F : Format H) → Lawful F → Codec F.head F.head_bytes (Headed F)
head_codec F lawful = record { back = λ h l p. p.back l; forth = lawful.forth }

-- ---- over the sets of dimensions

pub append_are : {a b : List ℕ} → Bytes a → Bytes b → Bytes (a ++ b)
append_are {a} f g x m = cases (Memᴰ.append_cases a m) (f x) (g x)

pub word_are : (w : ℕ) → Bytes (word_bytes w)
word_are w x (Memᴰ.head e) = omega (arith, e)
word_are w x (Memᴰ.tail (Memᴰ.head e)) = omega (arith, e)
word_are w x (Memᴰ.tail (Memᴰ.tail (Memᴰ.head e))) = omega (arith, e)
word_are w x (Memᴰ.tail (Memᴰ.tail (Memᴰ.tail (Memᴰ.head e)))) = omega (arith, e)
word_are w x (Memᴰ.tail (Memᴰ.tail (Memᴰ.tail (Memᴰ.tail m)))) = absurd (Memᴰ.not-nil m)

pub words_are : (ws : List ℕ) → Bytes (words_bytes ws)
unfolding words_bytes
words_are [] x m = absurd (Memᴰ.not-nil m)
words_are (w ∷ ws) x m = append_are (word_are w) (words_are ws) x m

-- a cell is made of words
cell-words : (d s : ℕ) (x : List ℕ) → Coded d x → Words d (cell s x)
cell-words d s x k = (length-cell s x ∙ coded-length d x k, go d s x k)
  where
    word : (b : ℕ) {a : ℕ} → a < ALL → shown b a < 2 ^ 32
    word zero h = omega arith
    word (suc b) h = omega (arith, h)

    go : (d s : ℕ) (x : List ℕ) → Coded d x → Small (cell s x)
    go d s [] k w m = absurd (Memᴰ.not-nil m)
    go zero s (a ∷ x) k w m = absurd k
    go (suc d) s (a ∷ x) k w m = cases (Memᴰ.cases_cons m) (λ e. rw e (word (s % 2) k.0)) (go d (s / 2) x k.1 w)

-- and so is a cell all ALL
whole-words : (d : ℕ) → Words d (replicate d ALL)
whole-words zero = (refl, small_none)
whole-words (suc d) = let w = whole-words d in (ap suc w.0, small_cons (omega arith) w.1)

module _ (opening : List ℕ) (E : Edition) where
  abbrev F : Format (List ℕ)
  F = sets_format opening E

  sets_ready : (zs : List ℕ) → Sized zs → Ready F zs
  sets_ready zs s =
      let d = length zs in
      let coded : (x : List ℕ) → Below zs x → Coded d x = λ x b. below-coded zs x (λ z i. (s.each z i).1) b in
      let nodes : length (sets d) ≤ 256 = omega (arith, sets-length d, pow_mono s.few) in
      record {
        sized = s;
        laws = plain_laws d;
        valid = coded;
        nodes = λ n m. omega (arith, sets-in d m, pow_mono s.few);
        cells = λ n x m b. cell-words d n x (coded x b);
        whole = whole-words d;
        short = λ xs x. omega (arith, listed-short d s.few xs x);
        few = omega (arith, mul-le-mul_right 1024 nodes);
      }

  module _ (four : length opening ≡ 4) where
    headed_sized : (zs : List ℕ) → Sized zs → Headed F zs
    headed_sized zs s = record { back = λ l. (header_codec opening four).back zs l s }

    module _ (are : Bytes opening) where
      -- A header is read back just if its sizes are within the limits.
      head_are : (zs : List ℕ) → Bytes (header_bytes opening zs)
      head_are zs = append_are are (append_are (word_are (length zs)) (words_are zs))

      pub headed_iff : (zs : List ℕ) → Headed F zs ↔ Sized zs
      headed_iff zs = (
        λ h. ((header_codec opening four).forth zs (header_bytes opening zs ++ []) []
            (append_are (head_are zs) (λ x m. absurd (Memᴰ.not-nil m))) (h.back [])).0,
        headed_sized zs,
      )

      pub sets_lawful : Tells E → Lawful F
      sets_lawful tells = record {
        forth = λ zs l rest b e. let r = (header_codec opening four).forth zs l rest b e in (headed_sized zs r.0, r.1);
        bytes = head_are;
        ready = λ zs h. sets_ready zs ((headed_iff zs).0 h);
        tells = tells;
        limit = omega arith;
      }

-- the openings are bytes
four_are : {a b c d : ℕ} → a < 256 → b < 256 → c < 256 → d < 256 → Bytes (a ∷ b ∷ c ∷ d ∷ [])
four_are p q r s x (Memᴰ.head e) = rw e p
four_are p q r s x (Memᴰ.tail (Memᴰ.head e)) = rw e q
four_are p q r s x (Memᴰ.tail (Memᴰ.tail (Memᴰ.head e))) = rw e r
four_are p q r s x (Memᴰ.tail (Memᴰ.tail (Memᴰ.tail (Memᴰ.head e)))) = rw e s
four_are p q r s x (Memᴰ.tail (Memᴰ.tail (Memᴰ.tail (Memᴰ.tail m)))) = absurd (Memᴰ.not-nil m)

cube_are : Bytes CUBE
cube_are = four_are (omega arith) (omega arith) (omega arith) (omega arith)

cub2_are : Bytes CUB2
cub2_are = four_are (omega arith) (omega arith) (omega arith) (omega arith)

pub one_headed : (zs : List ℕ) → Headed one zs ↔ Sized zs
one_headed = headed_iff CUBE edition_one refl cube_are

pub two_headed : (zs : List ℕ) → Headed two zs ↔ Sized zs
two_headed = headed_iff CUB2 edition_two refl cub2_are

pub one_lawful : Lawful one
one_lawful = sets_lawful CUBE edition_one refl cube_are one_tells

pub two_lawful : Lawful two
two_lawful = sets_lawful CUB2 edition_two refl cub2_are two_tells

-- The format that an opening names is one or two.
pub format_lawful : (s : List ℕ) → Lawful (format s)
format_lawful s = go _
  where
    go : (b : Bool) → Lawful (cond b two one)
    go true = two_lawful
    go false = one_lawful
