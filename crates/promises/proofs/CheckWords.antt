-- A check word summed in parts (document 02, C-13): block by block from the front, and a word in front of a place.
use Rattle.std.proofs.Common.{◌≡◌, ℕ, ◌+◌, ◌*◌, ◌%◌, ◌^◌, ◌≤◌, List, length, take, drop, ap, ◌∙◌, arith, drop-drop}
use Rattle.fields.specs.Words.{words, word_at}
use Rattle.fields.specs.WordsLaws.{words_cons}
use Rattle.fields_check.specs.Check.{words_sum, check_of}
use Rattle.fields_check.proofs.CheckLaws.{check_cut}

-- the sum of the blocks before a place, and the check word of the rest, have the check word of all
pub record Blocks (s : List ℕ) (sum at : ℕ) : Type 0 where
  pub within : at ≤ length s
  pub same : (sum + check_of (drop at s)) % 2 ^ 32 ≡ check_of s

-- sums modulo 2 ^ 32 in another grouping
regroup : (s a z c r : ℕ) → r ≡ (s + a) % 2 ^ 32 → c ≡ (a + z) % 2 ^ 32 → (r + z) % 2 ^ 32 ≡ (s + c) % 2 ^ 32
regroup s a z c r e f = omega (arith, e, f)

-- a block of k words more
pub blocks_on : {s : List ℕ} {sum at block r : ℕ} (h k : ℕ) → h ≡ 4 * k → Blocks s sum at → at + h ≤ length s
    → block ≡ check_of (take h (drop at s)) → r ≡ (sum + block) % 2 ^ 32 → Blocks s r (at + h)
blocks_on {s} {sum} {at} {block} {r} h k e b room f g = record {
  within = room;
  same =
      let cut : check_of (drop at s) ≡ (block + check_of (drop (at + h) s)) % 2 ^ 32 =
      rw (f, e, ← drop-drop (4 * k) at s) (check_cut k (drop at s)) in
      regroup sum block (check_of (drop (at + h) s)) (check_of (drop at s)) r g cut ∙ b.same;
}

-- a word more in front of a place, added to one of the sums
pub front : (s : List ℕ) (p a a' w at next : ℕ) → next ≡ at + 4 → next ≤ length s → w ≡ word_at s at → a' ≡ (a + w) % 2 ^ 32
    → (p + a) % 2 ^ 32 ≡ check_of (drop next s) → (p + a') % 2 ^ 32 ≡ check_of (drop at s)
unfolding check_of
front s p a a' w at next e h f g same =
    let cons : words_sum (words (drop at s)) ≡ word_at s at + words_sum (words (drop next s)) = rw e (ap words_sum (words_cons s at (omega arith))) in
    omega (arith, cons, same)
