-- Laws of the check word: it is a word, and it is written behind a body. What it is of bytes cut in two stands in proofs/CheckLaws.antt.
use Rattle.std.specs.Prelude.{◌≡◌, ℕ, ◌+◌, ◌^◌, ◌<◌, ◌≤◌, List, length, take}
use Rattle.std.proofs.Common.{sym, ap, ◌∙◌, arith, length-append}
use Rattle.fields.specs.Words.{word_bytes}
use Rattle.fields_check.specs.Check.{check_of, checked}
use Rattle.fields.specs.Written.{written, written_at, Wrote}
use Rattle.fields.specs.WrittenLaws.{written_then, length_written, wrote_front}

-- a check word is a word
pub check_lt : (s : List ℕ) → check_of s < 2 ^ 32
unfolding check_of
check_lt s = omega arith

-- the check word written after a body
pub wrote_check : {xs l m r : List ℕ} {at n : ℕ} → Wrote xs l m at → n ≡ at + 4 → at + 4 ≤ length l
    → r ≡ written_at at (word_bytes (check_of (take at m))) m → Wrote (checked xs) l r n
wrote_check {xs} {l} {m} {r} {at} {n} w en h e =
    let body : take at m ≡ xs = wrote_front w in
    let now : r ≡ written (checked xs) l
    = e ∙ rw (body, w.list) (written_then at xs (word_bytes (check_of xs)) l (sym w.count)) in
    let fits : length (checked xs) ≡ at + 4 = simp length-append (omega arith) in
    record { count = omega arith; same = ap length now ∙ length_written (checked xs) l (omega arith); list = now }
