-- The fields of the two files as bytes: words, readings, sums, fields whose value is tested, and codes.
use mathlib.Core.Path.{◌≡◌, refl, sym, ap, ap₂, ◌∙◌, subst}
use mathlib.Core.Bool.{◌&&◌}
use mathlib.Core.List.Memᴰ
use mathlib.Core.List.{List, [], ◌∷◌, ◌++◌}
use mathlib.Core.Logic.{◌↔◌}
use Prim.Native.Nat.{ℕ, suc, ◌+◌, ◌*◌, ◌/◌, ◌%◌, ◌^◌, ◌≤◌, ◌<◌}
use native.Mathlib.Omega.{arith}
use lib.Dec.{leb, ltb}
use lib.ListN.{length, get_or, drop, length-drop}
use lib.Seq.{drop-drop}
use lib.Signed.{mag}
use Rattle.lists.specs.Lists.{◌∈◌}
use Rattle.lists.proofs.Members.{at_in}
use Rattle.lists.proofs.Pigeonhole.{no_more}
use Rattle.fields.specs.Words.{word as word_of, word_at, word_bytes, words_bytes}
use Rattle.fields.specs.WordsLaws.{word_back, word_at_drop}
use Rattle.fields_sums.specs.Twos.{signed_of, bits_of, sum_at, sum_bytes, reading_at, reading_bytes}
use Rattle.fields_sums.specs.TwosLaws.{bits_lt, signed_bits, bits_signed, signed-fits}
use Rattle.fields_walk.specs.Parsed.{got, and_then}
use Rattle.fields_walk.specs.Fields.{room, word, sum, reading, field, codes}
use Rattle.fields_walk.specs.Limits.{Below, Bytes}
use Rattle.fields_walk.proofs.Steps.{then_assoc}
use Rattle.fields_walk.proofs.Fields.{within}
use Rattle.fields_walk.proofs.Lengths.{length-below}
use Rattle.fields_walk.proofs.Codec.{Codec, bytes_behind, codec_same, codec_as, codec_value, codec_test, codec_map}
use Rattle.fields_walk.proofs.Many.{flat-words, Cons, codec_nil, codec_cons}

-- one byte of a word, and the others
byte_step : (w a q : ℕ) → a < 256 → w ≡ a + 256 * q → (w % 256 ≡ a) × (w / 256 ≡ q)
byte_step w a q h e = (omega arith, omega arith)

word-bytes : (a b c d : ℕ) → a < 256 → b < 256 → c < 256 → d < 256 → (word_of a b c d < 2 ^ 32) × (word_bytes (word_of a b c d) ≡ a ∷ b ∷ c ∷ d ∷ [])
word-bytes a b c d p q r s =
    let w = word_of a b c d in
    let i = byte_step w a (b + 256 * (c + 256 * d)) p (omega arith) in
    let j = byte_step (w / 256) b (c + 256 * d) q i.1 in
    let k = byte_step (w / 256 / 256) c d r j.1 in
    let l : w / 256 / 256 / 256 % 256 ≡ d = omega (arith, k.1) in
    (omega arith, cc (i.0, j.0, k.0, l))

front_bytes : (l : List ℕ) → 4 ≤ length l → Bytes l → (word_at l 0 < 2 ^ 32) × (l ≡ word_bytes (word_at l 0) ++ drop 4 l)
unfolding word_at
front_bytes [] h b = absurd (omega arith)
front_bytes (a ∷ []) h b = absurd (omega arith)
front_bytes (a ∷ c ∷ []) h b = absurd (omega arith)
front_bytes (a ∷ c ∷ d ∷ []) h b = absurd (omega arith)
front_bytes (a ∷ c ∷ d ∷ e ∷ l) h b =
    let s = a ∷ c ∷ d ∷ e ∷ l in
    let at : (i : ℕ) → i < length s → get_or s i 0 < 256 = λ i k. b (get_or s i 0) (at_in 0 s i k) in
    let r = word-bytes a c d e (at 0 (omega arith)) (at 1 (omega arith)) (at 2 (omega arith)) (at 3 (omega arith)) in
    (r.0, sym (ap (λ (k : List ℕ). k ++ l) r.1))

-- a word
pub word_codec : Codec word word_bytes (λ w. w < 2 ^ 32)
unfolding word word_at
word_codec = codec_value 4 (λ l. word_at l 0) (λ w. refl) (λ w l h. word_back w h) front_bytes

-- two words as one number, the low one first
abbrev long_at : List ℕ → ℕ
long_at l = word_at l 0 + 2 ^ 32 * word_at l 4

abbrev long_bytes : ℕ → List ℕ
long_bytes n = word_bytes (n % 2 ^ 32) ++ word_bytes (n / 2 ^ 32)

long_back : (n : ℕ) (l : List ℕ) → n < 2 ^ 64 → long_at (long_bytes n ++ l) ≡ n
unfolding word_at
long_back n l h =
    let all : n % 2 ^ 32 + 2 ^ 32 * (n / 2 ^ 32) ≡ n = omega arith in
    ap₂ (λ a b. a + 2 ^ 32 * b) (word_back (n % 2 ^ 32) (omega arith)) (word_back (n / 2 ^ 32) (omega arith)) ∙ all

halves : (a b : ℕ) → a < 2 ^ 32 → b < 2 ^ 32 → (a + 2 ^ 32 * b < 2 ^ 64) × ((a + 2 ^ 32 * b) % 2 ^ 32 ≡ a) × ((a + 2 ^ 32 * b) / 2 ^ 32 ≡ b)
halves a b h k = (omega arith, omega arith, omega arith)

long-bytes : (l : List ℕ) → 8 ≤ length l → Bytes l → (long_at l < 2 ^ 64) × (l ≡ long_bytes (long_at l) ++ drop 8 l)
long-bytes l h b =
    let f = front_bytes l (omega arith) b in
    let r : Bytes (drop 4 l) = bytes_behind (word_bytes (word_at l 0)) (drop 4 l) f.1 b in
    let g = rw (word_at_drop, drop-drop) at (front_bytes (drop 4 l) (rw length-drop (omega arith)) r) in
    let x = halves (word_at l 0) (word_at l 4) f.0 g.0 in
    (x.0, rw (x.1, x.2) (f.1 ∙ ap (λ (m : List ℕ). word_bytes (word_at l 0) ++ m) g.1))

long_codec : Codec (λ l. and_then (room 8 l) (λ u rest. got (long_at l) rest)) long_bytes (λ n. n < 2 ^ 64)
long_codec = codec_value 8 long_at (λ n. refl) long_back long-bytes

-- an integer of so many bits
signed_codec : (k width : ℕ) (value : List ℕ → ℕ) {bytes : ℕ → List ℕ} → Codec (λ l. and_then (room width l) (λ u rest. got (value l) rest)) bytes (λ n. n < 2 ^ suc k)
    → Codec (λ l. and_then (room width l) (λ u rest. got (signed_of (suc k) (value l)) rest)) (λ z. bytes (bits_of (suc k) z)) (λ z. mag z < 2 ^ k)
signed_codec k width value c =
    codec_same (λ l. sym (then_assoc (room width l) (λ u. got (value l)) (λ n. got (signed_of (suc k) n))))
    (codec_as (λ z. (λ p. subst (λ y. mag y < 2 ^ k) p.1 (signed-fits k (bits_of (suc k) z)), λ h. (bits_lt k z h, signed_bits k z h)))
    (codec_map (signed_of (suc k)) (bits_of (suc k)) (bits_signed (suc k)) c))

-- a reading, and a sum
pub reading_codec : Codec reading reading_bytes (λ z. mag z < 2 ^ 31)
unfolding reading reading_at word
reading_codec = signed_codec 31 4 (λ l. word_at l 0) word_codec

pub sum_codec : Codec sum sum_bytes (λ z. mag z < 2 ^ 63)
unfolding sum sum_at
sum_codec = signed_codec 63 8 long_at long_codec

-- a field whose value is tested
pub field_codec : (low limit n : ℕ) → limit ≤ 2 ^ 32 → Codec (field low limit n) word_bytes (λ v. (low ≤ v) × (v < limit))
unfolding field
field_codec low limit n h =
    codec_as (λ v. (λ p. (within low limit v).0 p.1, λ p. (omega (arith, p.1), (within low limit v).1 p)))
    (codec_test (λ w. leb low w && ltb w limit) n word_codec)

-- codes below their sizes
pub codes_codec : (zs : List ℕ) → ((z : ℕ) → z ∈ zs → z ≤ 2 ^ 32) → Codec (codes zs) words_bytes (Below zs)
unfolding codes
codes_codec [] h = codec_as (λ x. (λ e. subst (Below []) (sym e) tt, λ b. no_more x (length-below [] x b))) (codec_nil flat-words)
codes_codec (z ∷ zs) h = codec_as below (codec_cons flat-words (field_codec 0 z 6 (h z (Memᴰ.head refl))) (λ a p. codes_codec zs (λ y m. h y (Memᴰ.tail m))))
  where
    below : (x : List ℕ) → Cons (λ a. (0 ≤ a) × (a < z)) (λ a. Below zs) x ↔ Below (z ∷ zs) x
    below [] = (λ p. p, λ b. b)
    below (a ∷ x) = (λ p. (p.0.1, p.1), λ b. ((omega arith, b.0), b.1))
