-- Things one behind the other as bytes: none, one in front of others, and n.
use mathlib.Core.Path.{◌≡◌, refl, sym, ap, ◌∙◌, subst}
use mathlib.Core.List.Memᴰ
use mathlib.Core.List.{List, [], ◌∷◌, ◌++◌, flat_map, append_assoc}
use mathlib.Core.Logic.{◌↔◌}
use Prim.Native.Nat.{ℕ, zero, suc}
use native.Mathlib.Omega.{arith}
use lib.ListN.{length}
use Rattle.lists.specs.Lists.{◌∈◌}
use Rattle.lists.proofs.Pigeonhole.{no_more}
use Rattle.lists.proofs.Tests.{cases}
use Rattle.fields.specs.Words.{word_bytes, words_bytes}
use Rattle.fields_walk.specs.Parsed.{got, consed, many}
use Rattle.fields_walk.proofs.Steps.{Reader, cons_back, cons_forth}
use Rattle.fields_walk.proofs.Codec.{Codec, append_behind, codec_rest, codec_as}

-- all writes what one writes for each thing, one behind the other
pub record Flat {A : Type 0} (one : A → List ℕ) (all : List A → List ℕ) : Type 0 where
  pub none : all [] ≡ []
  pub some : (x : A) (xs : List A) → all (x ∷ xs) ≡ one x ++ all xs

pub flat-each : {A : Type 0} (one : A → List ℕ) → Flat one (flat_map one)
unfolding flat_map
flat-each one = record { none = refl; some = λ x xs. refl }

pub flat-words : Flat word_bytes words_bytes
unfolding words_bytes
flat-words = record { none = refl; some = λ w ws. refl }

-- a list whose first thing has P, with Q of the others
abbrev pub Cons : {A : Type 0} → (A → Type 0) → (A → List A → Type 0) → List A → Type 0
Cons P Q [] = ⊥
Cons P Q (x ∷ xs) = P x × Q x xs

module _ {A : Type 0} {one : A → List ℕ} {all : List A → List ℕ} (flat : Flat one all) where
  pub codec_nil : Codec (got []) all (λ xs. xs ≡ [])
  codec_nil = record {
    back = λ xs l e. rw (e, flat.none);
    forth = λ xs l rest b e. let p : xs ≡ [] = cc in let q : l ≡ rest = cc in (p, rw (p, flat.none) q);
  }

  module _ {f : Reader A} {more : A → Reader (List A)} {P : A → Type 0} {Q : A → List A → Type 0} (c : Codec f one P) (d : (x : A) → P x → Codec (more x) all (Q x)) where
    cons_read : (xs : List A) (l : List ℕ) → Cons P Q xs → consed (f (all xs ++ l)) more ≡ got xs l
    cons_read [] l p = absurd p
    cons_read (x ∷ xs) l p =
        let e : all (x ∷ xs) ++ l ≡ one x ++ (all xs ++ l) = rw flat.some (append_assoc (one x) (all xs) l) in
        cons_back more (ap f e ∙ c.back x (all xs ++ l) p.0) ((d x p.0).back xs l p.1)

    pub codec_cons : Codec (λ l. consed (f l) more) all (Cons P Q)
    codec_cons = record {
      back = cons_read;
      forth = λ xs l rest b e.
          let t = cons_forth more (f l) e in
          let x = c.forth t.0 l t.2 b t.3 in
          let y = (d t.0 x.0).forth t.1 t.2 rest (codec_rest c b t.3) t.4 in
          rw (t.5, flat.some) ((x.0, y.0), append_behind (one t.0) (all t.1) rest x.1 y.1);
    }

  list_codec : {f : Reader A} {P : A → Type 0} → Codec f one P → (n : ℕ) → Codec (many n f) all (λ xs. (length xs ≡ n) × ((x : A) → x ∈ xs → P x))
  unfolding many
  list_codec c zero = codec_as (λ xs. (λ e. rw e (refl, λ x m. absurd (Memᴰ.not-nil m)), λ p. no_more xs p.0)) codec_nil
  list_codec {P = P} c (suc n) = codec_as each (codec_cons c (λ x p. list_codec c n))
    where
      each : (xs : List A) → Cons P (λ x xs. (length xs ≡ n) × ((x : A) → x ∈ xs → P x)) xs ↔ ((length xs ≡ suc n) × ((x : A) → x ∈ xs → P x))
      each [] = (λ p. absurd p, λ p. absurd (omega (arith, p.0)))
      each (x ∷ xs) = (
        λ p. (ap suc p.1.0, λ y m. cases (Memᴰ.cases_cons m) (λ q. subst P (sym q) p.0) (p.1.1 y)),
        λ p. (p.1 x (Memᴰ.head refl), (omega (arith, p.0), λ y m. p.1 y (Memᴰ.tail m))),
      )

-- as many things were read as there are
pub many-length : {A : Type 0} (f : Reader A) (n : ℕ) (l : List ℕ) {xs : List A} {rest : List ℕ} → many n f l ≡ got xs rest → length xs ≡ n
unfolding many
many-length f zero l {xs} e = let p : xs ≡ [] = cc in ap length p
many-length f (suc n) l e = let t = cons_forth (λ x. many n f) (f l) e in ap length t.5 ∙ ap suc (many-length f n t.2 t.4)

-- n things, and n words
pub many_codec : {A : Type 0} {f : Reader A} {bytes : A → List ℕ} {P : A → Type 0} → Codec f bytes P → (n : ℕ)
    → Codec (many n f) (flat_map bytes) (λ xs. (length xs ≡ n) × ((x : A) → x ∈ xs → P x))
many_codec {bytes = bytes} = list_codec (flat-each bytes)

pub words_codec : {f : Reader ℕ} {P : ℕ → Type 0} → Codec f word_bytes P → (n : ℕ) → Codec (many n f) words_bytes (λ ws. (length ws ≡ n) × ((w : ℕ) → w ∈ ws → P w))
words_codec = list_codec flat-words
