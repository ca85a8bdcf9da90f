-- A reader and a writer that belong together: what is written is read back, and what was read stands there. How they are made of others.
use mathlib.Core.Path.{◌≡◌, refl, sym, ap, ap₂, ◌∙◌, subst}
use mathlib.Core.Bool.{Bool, true}
use mathlib.Core.List.Memᴰ
use mathlib.Core.List.{List, [], ◌++◌, append_assoc, append-nil}
use mathlib.Core.Logic.{◌↔◌}
use Prim.Native.Nat.{ℕ, ◌≤◌}
use native.Mathlib.Omega.{arith}
use lib.ListN.{length, drop, length-append}
use lib.Seq.{drop_at}
use Rattle.fields.specs.Words.{word_bytes}
use Rattle.fields_walk.specs.Parsed.{got, and_then, stop_unless}
use Rattle.fields_walk.specs.Fields.{room}
use Rattle.fields_walk.specs.Limits.{Bytes}
use Rattle.fields_walk.proofs.Steps.{Reader, then_on, through, through_map, through_test, value_got, room_whole}

-- f reads just what bytes writes: the things that have P
pub record Codec {A : Type 0} (f : Reader A) (bytes : A → List ℕ) (P : A → Type 0) : Type 0 where
  pub back : (x : A) (l : List ℕ) → P x → f (bytes x ++ l) ≡ got x l
  pub forth : (x : A) (l rest : List ℕ) → Bytes l → f l ≡ got x rest → P x × (l ≡ bytes x ++ rest)

-- bytes behind bytes
pub bytes_behind : (a m : List ℕ) {l : List ℕ} → l ≡ a ++ m → Bytes l → Bytes m
bytes_behind a m e b x i = subst Bytes e b x (Memᴰ.append_right a i)

pub append_behind : (a b rest : List ℕ) {l m : List ℕ} → l ≡ a ++ m → m ≡ b ++ rest → l ≡ (a ++ b) ++ rest
append_behind a b rest e f = e ∙ ap (λ (k : List ℕ). a ++ k) f ∙ sym (append_assoc a b rest)

module _ {A : Type 0} {f : Reader A} {bytes : A → List ℕ} {P : A → Type 0} where
  -- bytes behind what was read
  pub codec_rest : Codec f bytes P → {x : A} {l rest : List ℕ} → Bytes l → f l ≡ got x rest → Bytes rest
  codec_rest c {x} {l} {rest} b e = bytes_behind (bytes x) rest (c.forth x l rest b e).1 b

  -- what is written is read back whole
  pub codec_whole : Codec f bytes P → (x : A) → P x → f (bytes x) ≡ got x []
  codec_whole c x p = ap f (sym (append-nil (bytes x))) ∙ c.back x [] p

  -- a reader and a limit said otherwise
  pub codec_same : {g : Reader A} → ((l : List ℕ) → f l ≡ g l) → Codec g bytes P → Codec f bytes P
  codec_same e c = record { back = λ x l p. e _ ∙ c.back x l p; forth = λ x l rest b h. c.forth x l rest b (sym (e l) ∙ h) }

  pub codec_as : {Q : A → Type 0} → ((x : A) → P x ↔ Q x) → Codec f bytes P → Codec f bytes Q
  codec_as i c = record {
    back = λ x l q. c.back x l ((i x).1 q);
    forth = λ x l rest b e. let r = c.forth x l rest b e in ((i x).0 r.0, r.1);
  }

-- so many bytes, and their value
pub codec_value : {A : Type 0} {bytes : A → List ℕ} {P : A → Type 0} (width : ℕ) (value : List ℕ → A) → ((x : A) → length (bytes x) ≡ width)
    → ((x : A) (l : List ℕ) → P x → value (bytes x ++ l) ≡ x) → ((l : List ℕ) → width ≤ length l → Bytes l → P (value l) × (l ≡ bytes (value l) ++ drop width l))
    → Codec (λ l. and_then (room width l) (λ u rest. got (value l) rest)) bytes P
codec_value {A} {bytes} {P} width value wide there here = record {
  back = λ x l p.
      then_on (λ u rest. got (value (bytes x ++ l)) rest) (room_whole width (bytes x ++ l) (omega (arith, length-append (bytes x) l, wide x)))
      ∙ ap₂ got (there x l p) (drop_at (bytes x) l width (wide x));
  forth = λ x l rest b e. let r = value_got width l value e in rw (r.2, r.1) (here l r.0 b);
}

-- a test of what was read
module _ {A : Type 0} (t : A → Bool) (n : ℕ) where
  abbrev pub tested : Reader A → Reader A
  tested f l = and_then (f l) (λ x rest. stop_unless (t x) n (got x rest))

  pub codec_test : {f : Reader A} {bytes : A → List ℕ} {P : A → Type 0} → Codec f bytes P → Codec (tested f) bytes (λ x. P x × (t x ≡ true))
  codec_test {f} c = record {
    back = λ x l p. then_on (λ x rest. stop_unless (t x) n (got x rest)) (c.back x l p.0) ∙ rw p.1;
    forth = λ x l rest b e.
        let u = through_test t n (f l) e in
        let r = c.forth x l rest b u.0 in
        ((r.0, u.1), r.1);
  }

-- a value made of what was read
module _ {A B : Type 0} (make : A → B) (part : B → A) where
  pub codec_map : {f : Reader A} {bytes : A → List ℕ} {P : A → Type 0} → ((a : A) → P a → part (make a) ≡ a) → Codec f bytes P
      → Codec (λ l. and_then (f l) (λ a rest. got (make a) rest)) (λ b. bytes (part b)) (λ b. P (part b) × (make (part b) ≡ b))
  codec_map {f} parted c = record {
    back = λ b l p. then_on (λ a rest. got (make a) rest) (c.back (part b) l p.0) ∙ ap (λ (d : B). got d l) p.1;
    forth = λ b l rest h e.
        let t = through_map make (f l) e in
        let r = c.forth t.0 l rest h t.1 in
        let i : part b ≡ t.0 = ap part (sym t.2) ∙ parted t.0 r.0 in
        rw i ((r.0, t.2), r.1);
  }

-- one thing behind another, which tells what the first was
module _ {A B : Type 0} {f : Reader A} {g : A → Reader B} {fore : A → List ℕ} {aft : B → List ℕ} {P : A → Type 0} {Q : A → B → Type 0} where
  pub codec_then : (one : B → A) → ((a : A) (b : B) → Q a b → one b ≡ a) → Codec f fore P → ((a : A) → P a → Codec (g a) aft (Q a))
      → Codec (λ l. and_then (f l) g) (λ b. fore (one b) ++ aft b) (λ b. P (one b) × Q (one b) b)
  codec_then one tells c m = record {
    back = λ b l p.
        ap (λ (k : List ℕ). and_then (f k) g) (append_assoc (fore (one b)) (aft b) l)
        ∙ then_on g (c.back (one b) (aft b ++ l) p.0)
        ∙ (m (one b) p.0).back b l p.1;
    forth = λ b l rest h e.
        let t = through (f l) g e in
        let x = c.forth t.0 l t.1 h t.2 in
        let y = (m t.0 x.0).forth b t.1 rest (codec_rest c h t.2) t.3 in
        rw (tells t.0 b y.0) ((x.0, y.0), append_behind (fore t.0) (aft b) rest x.1 y.1);
  }

-- two things made into one, which tells both
abbrev pub pair : {A B C : Type 0} → (A → B → C) → Reader A → (A → Reader B) → Reader C
pair make f g l = and_then (f l) (λ a rest. and_then (g a rest) (λ b rest'. got (make a b) rest'))

module _ {A B C : Type 0} (make : A → B → C) {f : Reader A} {g : A → Reader B} {fore : A → List ℕ} {aft : B → List ℕ} {P : A → Type 0} {Q : A → B → Type 0} where
  pub codec_made : (one : C → A) (two : C → B) → ((a : A) (b : B) → one (make a b) ≡ a) → ((a : A) (b : B) → two (make a b) ≡ b)
      → Codec f fore P → ((a : A) → P a → Codec (g a) aft (Q a))
      → Codec (pair make f g) (λ c. fore (one c) ++ aft (two c)) (λ c. P (one c) × (Q (one c) (two c) × (make (one c) (two c) ≡ c)))
  codec_made one two first second c m =
      codec_then one (λ a x q. ap one (sym q.1) ∙ first a (two x)) c (λ a p. codec_map (make a) two (λ b q. second a b) (m a p))

  -- the same where all are so made
  pub codec_pair : (one : C → A) (two : C → B) → ((c : C) → make (one c) (two c) ≡ c) → ((a : A) (b : B) → one (make a b) ≡ a) → ((a : A) (b : B) → two (make a b) ≡ b)
      → Codec f fore P → ((a : A) → P a → Codec (g a) aft (Q a)) → Codec (pair make f g) (λ c. fore (one c) ++ aft (two c)) (λ c. P (one c) × Q (one c) (two c))
  codec_pair one two made first second c m = codec_as (λ x. (λ p. (p.0, p.1.0), λ p. (p.0, (p.1, made x)))) (codec_made one two first second c m)

-- a count, and as many things
module _ {A : Type 0} {count : Reader ℕ} {g : ℕ → Reader (List A)} {bytes : List A → List ℕ} {C : ℕ → Type 0} {P : List A → Type 0} where
  pub codec_count : Codec count word_bytes C → ((n : ℕ) → Codec (g n) bytes (λ xs. (length xs ≡ n) × P xs))
      → Codec (λ l. and_then (count l) g) (λ xs. word_bytes (length xs) ++ bytes xs) (λ xs. C (length xs) × P xs)
  codec_count c m = codec_as (λ xs. (λ p. (p.0, p.1.1), λ p. (p.0, (refl, p.1)))) (codec_then length (λ n xs p. p.0) c (λ n p. m n))
