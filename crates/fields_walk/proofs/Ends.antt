-- The header and the check word as bytes.
use mathlib.Core.Path.{◌≡◌, refl, sym, ap, ap₂, ◌∙◌}
use mathlib.Core.List.{List, [], ◌++◌, append_assoc}
use Prim.Native.Nat.{ℕ, ◌-◌, ◌^◌, ◌≤◌}
use native.Mathlib.Omega.{arith}
use lib.Dec.{eqb}
use lib.ListN.{length, take, drop, length-append}
use lib.Seq.{drop_at, take_at}
use borrow.Author.Tests.{eqb-true, eq-eqb}
use Rattle.lists.specs.Lists.{◌∈◌}
use Rattle.fields.specs.Words.{word_bytes}
use Rattle.fields.specs.Opening.{starts_with}
use Rattle.fields.specs.OpeningLaws.{starts_append, starts_is}
use Rattle.fields_check.specs.Check.{check_of, checked}
use Rattle.fields_check.specs.CheckLaws.{check_lt}
use Rattle.lists.proofs.Pigeonhole.{no_more}
use Rattle.fields_walk.specs.Parsed.{got, and_then, stop_unless}
use Rattle.fields_walk.specs.Fields.{word, header, header_bytes, ended, close}
use Rattle.fields_walk.specs.Limits.{Sized, Bytes}
use Rattle.fields_walk.proofs.Steps.{Reader, then_on, through, through_map, passed}
use Rattle.fields_walk.proofs.Codec.{Codec, bytes_behind, append_behind, codec_rest, codec_whole, codec_as, codec_count}
use Rattle.fields_walk.proofs.Many.{words_codec}
use Rattle.fields_walk.proofs.Codecs.{word_codec, field_codec}

-- an opening in front
codec_opening : {A : Type 0} {f : Reader A} {bytes : A → List ℕ} {P : A → Type 0} (opening : List ℕ) {k : ℕ} (n : ℕ) → length opening ≡ k → Codec f bytes P
    → Codec (λ l. stop_unless (starts_with l opening) n (f (drop k l))) (λ x. opening ++ bytes x) P
codec_opening {f = f} {bytes} opening {k} n long c = record {
  back = λ x l p.
      rw (append_assoc opening (bytes x) l, starts_append opening (bytes x ++ l), drop_at opening (bytes x ++ l) k long) (c.back x l p);
  forth = λ x l rest b e.
      let o = passed (starts_with l opening) (f (drop k l)) n e in
      let i : l ≡ opening ++ drop k l = starts_is l opening o.0 ∙ ap (λ j. opening ++ drop j l) long in
      let r = c.forth x (drop k l) rest (bytes_behind opening (drop k l) i b) o.1 in
      (r.0, append_behind opening (bytes x) rest i r.1);
}

pub header_codec : (opening : List ℕ) → length opening ≡ 4 → Codec (header opening) (header_bytes opening) Sized
unfolding header
header_codec opening four =
    codec_as (λ zs. (
      λ p. record { some = p.0.0; few = omega (arith, p.0.1); each = λ z m. ((p.1 z m).0, omega (arith, (p.1 z m).1)) },
      λ s. ((s.some, omega (arith, s.few)), λ z m. ((s.each z m).0, omega (arith, (s.each z m).1))),
    ))
    (codec_opening opening 1 four (codec_count (field_codec 1 9 3 (omega arith)) (words_codec (field_codec 1 65536 4 (omega arith)))))

-- sizes are words
pub sizes-words : {zs : List ℕ} → Sized zs → (z : ℕ) → z ∈ zs → z ≤ 2 ^ 32
sizes-words s z m = omega (arith, (s.each z m).1)

-- the check word behind a body
module _ (body l : List ℕ) where
  before : length (body ++ l) - length l ≡ length body
  before = omega (arith, length-append body l)

  body_of : take (length (body ++ l) - length l) (body ++ l) ≡ body
  body_of = ap (λ k. take k (body ++ l)) before ∙ take_at body l (length body) refl

  close_is : close (body ++ l) l ≡ and_then (word l) (ended body)
  unfolding close
  close_is = ap (λ b. and_then (word l) (ended b)) body_of

  close_forth : {u : Unit {0}} {rest : List ℕ} → Bytes l → close (body ++ l) l ≡ got u rest → (l ≡ word_bytes (check_of body)) × (rest ≡ [])
  close_forth {u} {rest} b e =
      let t = through (word l) (ended body) (sym close_is ∙ e) in
      let f = word_codec.forth t.0 l t.1 b t.2 in
      let p = passed (eqb (length t.1) 0) (stop_unless (eqb t.0 (check_of body)) 11 (got tt t.1)) 10 t.3 in
      let q = passed (eqb t.0 (check_of body)) (got tt t.1) 11 p.1 in
      let n : t.1 ≡ [] = no_more t.1 (eqb-true (length t.1) 0 p.0) in
      let w : t.0 ≡ check_of body = eqb-true t.0 (check_of body) q.0 in
      let r : t.1 ≡ rest = cc q.1 in
      (f.1 ∙ ap₂ (λ (v : ℕ) (k : List ℕ). word_bytes v ++ k) w n, sym r ∙ n)

close-back : (body : List ℕ) → close (checked body) (word_bytes (check_of body)) ≡ got tt []
close-back body =
    close_is body (word_bytes (check_of body))
    ∙ then_on (ended body) (codec_whole word_codec (check_of body) (check_lt body))
    ∙ rw (eq-eqb (check_of body) (check_of body) refl)

-- a body with its check word straight after it, which ends the bytes
module _ {A : Type 0} where
  abbrev pub closing : List ℕ → A → Reader A
  closing s x rest = and_then (close s rest) (λ u rest'. got x rest')

  abbrev pub closed : Reader A → Reader A
  closed f s = and_then (f s) (closing s)

  pub closed-got : (f : Reader A) (s : List ℕ) {x : A} {rest : List ℕ} → closed f s ≡ got x rest → (end : List ℕ) × (f s ≡ got x end) × (close s end ≡ got tt rest)
  closed-got f s e =
      let t = through (f s) (closing s) e in
      let u = through_map (λ u. t.0) (close s t.1) t.3 in
      (t.1, t.2 ∙ ap (λ (y : A). got y t.1) u.2, u.1)

  module _ {f : Reader A} {bytes : A → List ℕ} {P : A → Type 0} (c : Codec f bytes P) where
    pub closed-back : (x : A) → P x → closed f (checked (bytes x)) ≡ got x []
    closed-back x p =
        then_on (closing (checked (bytes x))) (c.back x (word_bytes (check_of (bytes x))) p)
        ∙ then_on (λ u rest'. got x rest') (close-back (bytes x))

    pub closed_forth : (s : List ℕ) (x : A) (rest : List ℕ) → Bytes s → closed f s ≡ got x rest → P x × (s ≡ checked (bytes x)) × (rest ≡ [])
    closed_forth s x rest b e =
        let t = closed-got f s e in
        let r = c.forth x s t.0 b t.1 in
        let d = close_forth (bytes x) t.0 (codec_rest c b t.1) (ap (λ (w : List ℕ). close w t.0) (sym r.1) ∙ t.2) in
        (r.0, r.1 ∙ ap (λ (k : List ℕ). bytes x ++ k) d.0, d.1)
