-- A set is a key just if no cell of it is shared.
use mathlib.Core.Path.{◌≡◌, refl, sym, ap, ◌∙◌}
use mathlib.Core.Bool.{Bool, true, not, ◌&&◌, ◌||◌, false≢true}
use mathlib.Core.List.Memᴰ
use mathlib.Core.List.{List, [], ◌∷◌, ◌++◌}
use Prim.Native.Nat.{ℕ, suc, ◌≤◌, ◌<◌}
use native.Mathlib.Omega.{arith}
use lib.Dec.{eqb}
use lib.ListN.{length, get_or}
use borrow.Author.Tests.{eq-eqb, eqb-true, eqb-false, not-false}
use Rattle.lists.specs.Lists.{◌∈◌, keep, only, some, every}
use Rattle.lists.proofs.Tests.{cases, truth, refuted, every_in}
use Rattle.lists.proofs.Members.{keep_of, keep-none, at_in}
use Rattle.lattice.specs.Sets.{full, sets}
use Rattle.lattice.proofs.Sets.{sets-in}
use Rattle.cube.specs.Codes.{plain}
use Rattle.cube.specs.Condensed.{single, smallest}
use Rattle.cube.specs.Keys.{key, least_keys}
use Rattle.cube.proofs.Codes.{plain_laws}
use Rattle.cube.proofs.Keys.{finest-key, least_keys-short}
use Rattle.rows.specs.Rows.{cut, row_at}
use Rattle.rows.proofs.Rows.{cut-length}
use Rattle.rows_order.proofs.Arranged.{arranged_in, arranged_of}
use Rattle.rows_order.specs.Index.{key as key_of, arranged}
use Rattle.rows_slots.specs.Slots.{shares}
use Rattle.rows_slots.proofs.Groups.{crowds-flat}
use Rattle.rows_crowds.proofs.Left.{shares-single}
use Rattle.archive_read.specs.Sharing.{Sharing}
use Rattle.call_keys.specs.Laid.{Laid}
use Rattle.call_keys.specs.Bare.{bare, least_bare}

-- a test that each place of a list passes
every-place : (p : List ℕ → Bool) (l : List (List ℕ)) → ((i : ℕ) → i < length l → p (get_or l i []) ≡ true) → every p l ≡ true
every-place p [] h = refl
every-place p (x ∷ l) h = let e = h 0 (omega arith) in rw e (every-place p l (λ i k. h (suc i) (omega (arith, k))))

-- equal tests list the same sets
smallest-same : (d : ℕ) (p q : ℕ → Bool) (l acc : List ℕ) → ((s : ℕ) → s ∈ l → p s ≡ q s) → smallest (plain d) p l acc ≡ smallest (plain d) q l acc
smallest-same d p q [] acc h = refl
smallest-same d p q (s ∷ l) acc h =
    ap (λ (b : Bool). smallest (plain d) p l (acc ++ only (b && not (some ((plain d).holds s) acc)) s [])) (h s (Memᴰ.head refl))
    ∙ smallest-same d p q l (acc ++ only (q s && not (some ((plain d).holds s) acc)) s []) (λ t m. h t (Memᴰ.tail m))

-- no row shares a cell of the set
pub bare-none : (d : ℕ) (used : List ℕ) (s : ℕ) → get_or used s 0 ≡ 0 → bare d used s ≡ true
unfolding bare
bare-none d used s e = cases (truth (eqb s (full d)))
    (λ t. ap (λ (b : Bool). b || eqb (get_or used s 0) 0) t)
    (λ t. ap (λ (b : Bool). b || eqb (get_or used s 0) 0) t ∙ eq-eqb (get_or used s 0) 0 e)

module _ {d n : ℕ} {ws used : List ℕ} (rows : Laid d n ws) (told : Sharing d n ws used) where
  abbrev xs : List (List ℕ)
  xs = cut d n ws

  module _ {s : ℕ} (m : s ∈ sets d) where
    abbrev keys : ℕ → List ℕ
    keys = key_of s xs

    -- the rows that share a cell
    abbrev sharers : List ℕ
    sharers = keep (shares 2 keys n) (arranged keys n)

    sharing : (i : ℕ) → i < n → shares 2 keys n i ≡ not (single (plain d) xs s (row_at xs i))
    sharing i h = shares-single d n s ws rows.size rows.few rows.base i h m

    none-key : length sharers ≡ 0 → key (plain d) xs s ≡ true
    unfolding key
    none-key e = every-place (single (plain d) xs s) xs (λ i l.
        let h : i < n = rw cut-length at l in
        not-false (single (plain d) xs s (row_at xs i)) (sym (sharing i h) ∙ refuted (λ t. empty sharers e (keep_of (shares 2 keys n) (arranged_of keys n h) t))))
      where
        empty : {x : ℕ} (l : List ℕ) → length l ≡ 0 → x ∈ l → ⊥
        empty [] e i = Memᴰ.not-nil i
        empty (y ∷ l) e i = omega (arith, e)

    key-none : key (plain d) xs s ≡ true → length sharers ≡ 0
    unfolding key
    key-none e = ap length (keep-none (shares 2 keys n) (arranged keys n) (λ i k t.
        let h = arranged_in keys n k in
        false≢true (sym (ap not (every_in (single (plain d) xs s) e (at_in [] xs i (rw cut-length h)))) ∙ sym (sharing i h) ∙ t)))

    shared-key : s < full d → eqb (get_or used s 0) 0 ≡ key (plain d) xs s
    shared-key h =
        let k = told.rows s h ∙ ap length (crowds-flat keys n 2) in
        cases (truth (key (plain d) xs s))
        (λ t. eq-eqb (get_or used s 0) 0 (k ∙ key-none t) ∙ sym t)
        (λ t. refuted (λ u. false≢true (sym t ∙ none-key (sym k ∙ eqb-true (get_or used s 0) 0 u))) ∙ sym t)

    pub bare-key : bare d used s ≡ key (plain d) xs s
    unfolding bare
    bare-key = cases (truth (eqb s (full d)))
        (λ t. ap (λ (b : Bool). b || eqb (get_or used s 0) 0) t ∙ sym (ap (key (plain d) xs) (eqb-true s (full d) t) ∙ finest-key (plain d) (plain_laws d) xs rows.base.valid))
        (λ t. ap (λ (b : Bool). b || eqb (get_or used s 0) 0) t ∙ shared-key (omega (arith, eqb-false s (full d) t, sets-in d m)))

  pub least-bare : least_bare d used ≡ least_keys (plain d) xs
  unfolding least_bare least_keys
  least-bare = smallest-same d (bare d used) (key (plain d) xs) (sets d) [] (λ s m. bare-key m)

  pub bare-short : length (least_bare d used) ≤ 70
  bare-short = omega (arith, ap length least-bare, least_keys-short d xs rows.dims)
