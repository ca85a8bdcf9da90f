-- One set more in our lists: it is noted for the rows that come out alone at it and are not passed over. Passed over are the rows that are single on the set without one of
-- its dimensions, and these are the rows of which a listed set lies within the set.
use mathlib.Core.Path.{◌≡◌, refl, sym, ap, subst, ◌∙◌}
use mathlib.Core.Logic.{◌≢◌}
use mathlib.Core.Bool.{Bool, true, false, not, ◌&&◌, false≢true, not-not}
use mathlib.Core.List.Memᴰ
use mathlib.Core.List.{List, [], ◌∷◌, ◌++◌, append-nil}
use Prim.Native.Nat.{ℕ, ◌-◌, ◌*◌, ◌^◌, ◌≤◌, ◌<◌}
use native.Mathlib.Omega.{arith}
use lib.Pow.{pow_mono, pow-lt, pow_pos}
use lib.ListN.{length, get_or, length-map}
use lib.Seq.{ext_get_or}
use borrow.Author.Tests.{not-true, not-false}
use Rattle.lists.specs.Lists.{◌∈◌, some, keep, only}
use Rattle.lists.specs.Order.{Rising}
use Rattle.lists.proofs.Tests.{cases, truth, refuted, some_in, some_of}
use Rattle.lists.proofs.Members.{at_in, keep_in, keep_of}
use Rattle.lists.proofs.Pairwise.{pairwise_keep}
use Rattle.lists.proofs.Places.{map_at}
use Rattle.lattice.specs.Sets.{size as size_of, before, full, sets, sets_from, holds}
use Rattle.lattice.proofs.Sets.{by_lattice, sets_of, full-lt, holds-enough}
use Rattle.lattice.proofs.Less.{less_within, less_held, less_before, less_between}
use Rattle.lattice.proofs.Turns.{from-full}
use Rattle.cube.specs.Codes.{plain}
use Rattle.cube.specs.Condensed.{proper, single, Base}
use Rattle.cube.proofs.Codes.{plain_laws}
use Rattle.cube.proofs.Singles.{single_up}
use Rattle.cube.proofs.Smallest.{smallest-held}
use Rattle.rows.specs.Rows.{width, cut, row_at}
use Rattle.rows.proofs.Rows.{cut-length}
use Rattle.rows_bits.specs.Rowsets.{has}
use Rattle.rows_order.specs.Index.{key}
use Rattle.rows_slots.specs.Slots.{shares}
use Rattle.rows_crowds.specs.Crowds.{shorter, left_out}
use Rattle.rows_crowds.proofs.Shorter.{shorter_less, shorter-holds, shorter_alone, rising-front}
use Rattle.rows_crowds.proofs.First.{first-shares}
use Rattle.rows_crowds.proofs.Turns.{all-rising, all_of}
use Rattle.rows_crowds.proofs.Left.{left_in, left-of, left-distinct, shares-single}
use Rattle.rows_lists.specs.Lists.{noted}
use Rattle.rows_alone.specs.Alone.{words_of, AloneOn, passes, is_new, Lower}
use Rattle.rows_alone.proofs.Words.{passes_in, passes_of}
use Rattle.rows_lists.proofs.Noted.{noted-length, noted-out, noted_in}
use Rattle.rows_condense.proofs.Growing.{listed_to, listed_among, listed_more}
use Rattle.rows_condense.proofs.Partly.{partly, below}

-- a set that had a turn is not the one in hand
done-other : (done rest : List ℕ) (s t : ℕ) → Rising before (done ++ s ∷ rest) → t ∈ done → t ≢ s
done-other [] rest s t r m q = Memᴰ.not-nil m
done-other (u ∷ done) rest s t r (Memᴰ.head p) q = by_lattice.irrefl s (subst (λ (z : ℕ). before z s ≡ true) (sym p ∙ q) (r.0 s (Memᴰ.append_right done (Memᴰ.head refl))))
done-other (u ∷ done) rest s t r (Memᴰ.tail m) q = done-other done rest s t r.1 m q

module _ (d n : ℕ) (ws : List ℕ) (dims : d ≤ 8) (few : n ≤ 1024) (size : n * width d ≡ length ws) (b : Base (plain d) (cut d n ws))
    (done rest : List ℕ) (s : ℕ) (e : done ++ s ∷ rest ≡ proper (plain d)) (f : s < full d)
    (alone : List ℕ) (known : (t : ℕ) → t ∈ done → AloneOn d n ws alone t) where
  abbrev xs : List (List ℕ)
  xs = cut d n ws

  abbrev lone : List ℕ
  lone = keep (is_new alone s) (left_out 2 xs n s)

  all-few : full d ≤ 256
  all-few = omega (arith, full-lt d, pow_mono {i = d} {j = 8} dims)

  within : s < 2 ^ d
  within = omega (arith, f, full-lt d)

  small : s < 256
  small = omega (arith, all-few, f)

  node : {t : ℕ} → t ≤ s → t ∈ sets d
  node h = sets_of d (omega (arith, within, h))

  turns : sets_from (full d) 0 ≡ done ++ s ∷ rest
  unfolding proper
  turns = from-full d dims ∙ sym e

  in_order : Rising before (done ++ s ∷ rest)
  in_order = subst (Rising before) turns (all-rising (full d))

  -- the set without one of its dimensions had a turn before
  less_done : (i : ℕ) → i < 8 → holds 32 s (2 ^ i) ≡ true → s - 2 ^ i ∈ done
  less_done i h t = rising-front done rest s (s - 2 ^ i) in_order
      (subst (λ (z : List ℕ). s - 2 ^ i ∈ z) turns (all_of (full d) all-few (omega (arith, f))))
      (less_before 32 i s (omega (arith, h)) t)

  module _ (i : ℕ) (h : i < n) where
    abbrev x : List ℕ
    x = row_at xs i

    abbrev acc : List ℕ
    acc = listed_to (plain d) xs done x

    -- no listed set lies within s
    abbrev opened : Bool
    opened = not (some (holds d s) acc)

    coded : (plain d).valid x
    coded = b.valid x (at_in [] xs i (rw cut-length h))

    own : get_or (partly d xs done) i [] ≡ acc
    unfolding partly
    own = map_at (listed_to (plain d) xs done) [] [] xs i (rw cut-length h)

    partly_long : i < length (partly d xs done)
    unfolding partly
    partly_long = rw (length-map, cut-length) h

    sharing : {t : ℕ} → t ≤ s → shares 2 (key t xs) n i ≡ not (single (plain d) xs t x)
    sharing {t} k = shares-single d n t ws size few b i h (node k)

    -- the words of a smaller set have the row where it is single
    told : {t : ℕ} → t ≤ s → t ∈ done → has (words_of alone t) i ≡ single (plain d) xs t x
    told {t} k m = known t m i h ∙ ap not (sharing k) ∙ not-not (single (plain d) xs t x)

    -- passed over: single on a smaller set, which had a turn
    passed_in : passes 8 alone s i ≡ true → (t : ℕ) × (t ∈ done) × (holds d s t ≡ true) × (single (plain d) xs t x ≡ true)
    passed_in p =
        let r = passes_in alone s i 8 p in
        let k = r.0 in
        let m = less_done k r.1 r.2 in
        (s - 2 ^ k, m, less_held 32 k s (omega (arith, r.1)) r.2 d, sym (told (omega arith) m) ∙ r.3)

    passed_of : (t : ℕ) → t < 2 ^ d → t ≢ s → holds d s t ≡ true → single (plain d) xs t x ≡ true → passes 8 alone s i ≡ true
    passed_of t l q g u =
        let r = less_between d s t within l g q in
        let k = r.0 in
        let had : holds 32 s (2 ^ k) ≡ true = holds-enough d 32 s (2 ^ k) (pow-lt r.1) (omega (arith, dims)) ∙ r.2 in
        let low : k < 8 = omega (arith, r.1, dims) in
        passes_of alone s i 8 k low had (told (omega arith) (less_done k low had) ∙ single_up (plain d) (plain_laws d) xs (s - 2 ^ k) t x coded r.3 u)

    -- a row that shares its cell is not passed over,
    kept_on : shares 2 (key s xs) n i ≡ true → is_new alone s i ≡ true
    kept_on t = ap not (refuted (λ p. let r = passed_in p in
        false≢true (sym (not-true (single (plain d) xs s x) (sym (sharing (omega arith)) ∙ t)) ∙ single_up (plain d) (plain_laws d) xs s r.0 x coded r.2 r.3)))

    -- and one that shares none on the shorter set is
    passed_on : 1 ≤ s → shares 2 (key (shorter s) xs) n i ≡ false → passes 8 alone s i ≡ true
    passed_on one t =
        let l = shorter_less s one small in
        passed_of (shorter s) (omega (arith, l, within)) (λ q. omega (arith, q, l)) (shorter-holds s one small d)
        (not-false (single (plain d) xs (shorter s) x) (sym (sharing (omega (arith, l))) ∙ t))

    -- none is passed over where only the empty set is smaller: they all share its cell
    first_on : size_of s ≡ 1 → n ≢ 1 → is_new alone s i ≡ true
    first_on one more = ap not (refuted (λ p. let r = passes_in alone s i 8 p in
        let k = r.0 in
        let w = less_within 32 k s (omega (arith, r.1)) r.2 in
        let below : s - 2 ^ k < s = omega (arith, w, pow_pos k) in
        let e : s - 2 ^ k ≡ 0 = shorter_alone s (omega (arith, w, pow_pos k)) small one (s - 2 ^ k) below (less_held 32 k s (omega (arith, r.1)) r.2 8) in
        let m = subst (λ (t : ℕ). t ∈ done) e (less_done k r.1 r.2) in
        let g = subst (λ (t : ℕ). has (words_of alone t) i ≡ true) e r.3 in
        false≢true (sym (known 0 m i h ∙ ap not (first-shares d n ws b.valid 2 (omega arith) more i h)) ∙ g)))

    next : listed_to (plain d) xs (done ++ s ∷ []) x ≡ acc ++ only (single (plain d) xs s x && opened) s []
    next = listed_more (plain d) (plain_laws d) xs done x s

    -- it is open unless it is passed over
    open_new : passes 8 alone s i ≡ false → opened ≡ true
    open_new p = ap not (refuted (λ q. let r = some_in (holds d s) acc q in
        let m = listed_among (plain d) (plain_laws d) xs done x r.1 in
        false≢true (sym p ∙ passed_of r.0 (below d xs dims done (s ∷ rest) e x r.0 r.1) (done-other done rest s r.0 in_order m.0) r.2 m.1)))

    shut : passes 8 alone s i ≡ true → opened ≡ false
    unfolding listed_to
    shut p =
        let r = passed_in p in
        let g = smallest-held (plain d) (plain_laws d) (λ u. single (plain d) xs u x) done [] r.1 r.3 in
        ap not (some_of (holds d s) g.1 ((plain_laws d).holds_trans s r.0 g.0 r.2 g.2))

    kept : ((y : ℕ) → y ∈ lone → y ≢ i) → single (plain d) xs s x && opened ≡ false → get_or (noted s lone (partly d xs done)) i [] ≡ listed_to (plain d) xs (done ++ s ∷ []) x
    kept g w = noted-out s lone (partly d xs done) i g ∙ own ∙ sym (next ∙ rw w (append-nil acc))

    one-row : get_or (noted s lone (partly d xs done)) i [] ≡ listed_to (plain d) xs (done ++ s ∷ []) x
    one-row = cases (truth (single (plain d) xs s x))
        (λ t. let e = sharing (omega arith) ∙ ap not t in
        cases (truth (passes 8 alone s i))
        (λ p. kept (λ y m g. false≢true (sym (ap not p) ∙ subst (λ (z : ℕ). is_new alone s z ≡ true) g (keep_in (is_new alone s) (left_out 2 xs n s) m).1)) (rw (t, shut p)))
        (λ p. cases (left-of 2 xs n s i h e)
        (λ m. noted_in s lone (partly d xs done) i (pairwise_keep (λ y z. y ≢ z) (is_new alone s) (left_out 2 xs n s) (left-distinct 2 xs n s)) (keep_of (is_new alone s) m (ap not p)) partly_long
        ∙ ap (λ (l : List ℕ). l ++ s ∷ []) own ∙ sym (next ∙ rw (t, open_new p)))
        (λ q. absurd (false≢true (sym p ∙ passed_on q.0 q.1)))))
        (λ t. kept (λ y m g. false≢true (sym (subst (λ (z : ℕ). shares 2 (key s xs) n z ≡ false) g (left_in 2 xs n s y (keep_in (is_new alone s) (left_out 2 xs n s) m).0).1) ∙ sharing (omega arith) ∙ ap not t)) (rw t))

  pub lone_lower : Lower d n ws alone s
  lone_lower = record { sound = kept_on; whole = passed_on; next = λ one more i h. first_on i h one more }

  pub partly_noted : noted s lone (partly d xs done) ≡ partly d xs (done ++ s ∷ [])
  unfolding partly
  partly_noted =
      let old = partly d xs done in
      ext_get_or [] (noted s lone old) (partly d xs (done ++ s ∷ []))
      (noted-length s lone old ∙ length-map xs (listed_to (plain d) xs done) ∙ sym (length-map xs (listed_to (plain d) xs (done ++ s ∷ []))))
      (λ i l. let h : i < n = rw (noted-length, length-map, cut-length) at l in
      one-row i h ∙ sym (map_at (listed_to (plain d) xs (done ++ s ∷ [])) [] [] xs i (rw cut-length h)))
