-- What was read, taken to another value: readers step by step.
use mathlib.Core.Path.{◌≡◌, refl, ap, ◌∙◌}
use mathlib.Core.Bool.{Bool, true, false}
use mathlib.Core.List.{List, ◌∷◌, ◌++◌, map}
use Prim.Native.Nat.{ℕ, zero, suc, ◌+◌}
use native.Mathlib.Omega.{arith}
use Rattle.fields_walk.specs.Parsed.{Parsed, stop, got, and_then, stop_unless, consed, many}
use Rattle.fields_walk.proofs.Steps.{Reader}
use Rattle.archive_editions.specs.Sums.{mapped}

module _ {A B C D : Type 0} (f : A → B) (g : C → D) where
  pub mapped_then : (p : Parsed A) (next : A → Reader C) (other : B → Reader D) → ((x : A) (l : List ℕ) → mapped g (next x l) ≡ other (f x) l)
      → mapped g (and_then p next) ≡ and_then (mapped f p) other
  mapped_then (stop n) next other h = refl
  mapped_then (got x rest) next other h = h x rest

pub mapped_on : {A C D : Type 0} (g : C → D) (p : Parsed A) (next : A → Reader C) (other : A → Reader D) → ((x : A) (l : List ℕ) → mapped g (next x l) ≡ other x l)
    → mapped g (and_then p next) ≡ and_then p other
mapped_on g (stop n) next other h = refl
mapped_on g (got x rest) next other h = h x rest

pub mapped_test : {A B : Type 0} (f : A → B) (b : Bool) (n : ℕ) (p : Parsed A) → mapped f (stop_unless b n p) ≡ stop_unless b n (mapped f p)
mapped_test f true n p = refl
mapped_test f false n p = refl

module _ {A B : Type 0} (f : A → B) where
  cons_mapped : (x : A) (p : Parsed (List A)) → mapped (map f) (and_then p (λ xs rest. got (x ∷ xs) rest)) ≡ and_then (mapped (map f) p) (λ ys rest. got (f x ∷ ys) rest)
  cons_mapped x (stop n) = refl
  cons_mapped x (got xs rest) = refl

  -- a list, thing by thing
  pub mapped_cons : (p : Parsed A) (more : A → Reader (List A)) (other : B → Reader (List B)) → ((x : A) (l : List ℕ) → mapped (map f) (more x l) ≡ other (f x) l)
      → mapped (map f) (consed p more) ≡ consed (mapped f p) other
  mapped_cons (stop n) more other h = refl
  mapped_cons (got x rest) more other h = cons_mapped x (more x rest) ∙ ap (λ (q : Parsed (List B)). and_then q (λ ys rest'. got (f x ∷ ys) rest')) (h x rest)

  pub mapped_many : (g : Reader A) (k : Reader B) → ((l : List ℕ) → mapped f (g l) ≡ k l) → (n : ℕ) (l : List ℕ) → mapped (map f) (many n g l) ≡ many n k l
  unfolding many
  mapped_many g k h zero l = refl
  mapped_many g k h (suc n) l = mapped_cons (g l) (λ x. many n g) (λ y. many n k) (λ x m. mapped_many g k h n m) ∙ ap (λ (q : Parsed B). consed q (λ y. many n k)) (h l)

-- ---- so many things, and more behind them

module _ {A : Type 0} (f : Reader A) where
  abbrev both : ℕ → List A → Reader (List A)
  both k xs rest = and_then (many k f rest) (λ ys rest'. got (xs ++ ys) rest')

  again : (p : Parsed (List A)) → p ≡ and_then p (λ ys rest. got ys rest)
  again (stop n) = refl
  again (got ys rest) = refl

  in_front : (k : ℕ) (x : A) (p : Parsed (List A))
      → and_then (and_then p (both k)) (λ xs rest. got (x ∷ xs) rest) ≡ and_then (and_then p (λ xs rest. got (x ∷ xs) rest)) (both k)
  in_front k x (stop n) = refl
  in_front k x (got xs rest) = go (many k f rest)
    where
      go : (q : Parsed (List A)) → and_then (and_then q (λ ys rest'. got (xs ++ ys) rest')) (λ zs rest'. got (x ∷ zs) rest') ≡ and_then q (λ ys rest'. got (x ∷ xs ++ ys) rest')
      go (stop n) = refl
      go (got ys rest') = refl

  pub many_both : (n k : ℕ) (l : List ℕ) → many (n + k) f l ≡ and_then (many n f l) (both k)
  unfolding many
  many_both zero k l = let e : 0 + k ≡ k = omega arith in ap (λ (j : ℕ). many j f l) e ∙ again (many k f l)
  many_both (suc n) k l = let e : suc n + k ≡ suc (n + k) = omega arith in ap (λ (j : ℕ). many j f l) e ∙ go (λ rest. many_both n k rest) (f l)
    where
      go : ((rest : List ℕ) → many (n + k) f rest ≡ and_then (many n f rest) (both k)) → (p : Parsed A) → consed p (λ x. many (n + k) f) ≡ and_then (consed p (λ x. many n f)) (both k)
      go h (stop m) = refl
      go h (got x rest) = ap (λ (q : Parsed (List A)). and_then q (λ xs rest'. got (x ∷ xs) rest')) (h rest) ∙ in_front k x (many n f rest)
