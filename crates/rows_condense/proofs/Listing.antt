-- Our lists of all rows in a loop over the 256 sets: those for the sets that had a turn, the rows that are single on these, and how many cells rows share on these.
use mathlib.Core.Path.{◌≡◌, refl, sym, ap, subst, ◌∙◌}
use mathlib.Core.List.Memᴰ
use mathlib.Core.List.{List, [], ◌∷◌, ◌++◌, flat_map, append-nil}
use Prim.Native.Nat.{ℕ, ◌+◌, ◌*◌, ◌≤◌, ◌<◌}
use native.Mathlib.Nat.{le_trans, mul-le-mul}
use native.Mathlib.Omega.{arith}
use lib.Dec.{eqb}
use lib.Pow.{pow_mono}
use lib.ListN.{length, get_or, length-append}
use lib.Seq.{append_snoc}
use borrow.Author.Tests.{eqb-true, eqb-false}
use Rattle.lists.specs.Lists.{◌∈◌, keep}
use Rattle.lists.proofs.Tests.{cases, truth}
use Rattle.lists.proofs.Members.{flat_append}
use Rattle.lattice.specs.Sets.{full, sets, sets_from}
use Rattle.lattice.proofs.Sets.{sets-length}
use Rattle.lattice.proofs.Turns.{from-full, from_on, from-off, from-done}
use Rattle.cube.specs.Codes.{plain}
use Rattle.cube.specs.Condensed.{proper, shared, common, Base}
use Rattle.cube.proofs.Normals.{common-length}
use Rattle.rows.specs.Rows.{width, cut}
use Rattle.rows.proofs.Rows.{cut-length}
use Rattle.rows_bits.specs.Rowsets.{has}
use Rattle.rows_order.specs.Index.{key}
use Rattle.rows_slots.specs.Slots.{crowds, packed}
use Rattle.rows_crowds.specs.Crowds.{left_out, ends}
use Rattle.rows_crowds.proofs.Left.{ends-shared}
use Rattle.rows_lists.specs.Lists.{lists_of, Short, Empty, Fit, noted, our_lists}
use Rattle.rows_alone.specs.Alone.{AloneOn, is_new, Lower, Told}
use Rattle.rows_condense.proofs.Partly.{partly, partly_none, partly_all, partly_fit}
use Rattle.rows_condense.proofs.Lone.{lone_lower, partly_noted}

pub record Listing (d n : ℕ) (ws alone ls : List ℕ) (cells k : ℕ) : Type 0 where
  pub below : k ≤ 256
  pub short : Short n ls
  pub done : List ℕ
  pub left : done ++ sets_from (full d) k ≡ proper (plain d)
  pub known : (t : ℕ) → t ∈ done → AloneOn d n ws alone t
  pub lists : lists_of n ls ≡ partly d (cut d n ws) done
  pub count : cells ≡ length (flat_map (shared (plain d) (cut d n ws)) done)

-- base rows: within the limits, no two with the same codes
pub record Given (d n : ℕ) (ws : List ℕ) : Type 0 where
  pub dims : d ≤ 8
  pub few : n ≤ 1024
  pub size : n * width d ≡ length ws
  pub base : Base (plain d) (cut d n ws)

module _ {d n : ℕ} {ws : List ℕ} (given : Given d n ws) where
  abbrev xs : List (List ℕ)
  xs = cut d n ws

  pub listing_start : (alone ls : List ℕ) → Empty n ls → Listing d n ws alone ls 0 0
  unfolding proper flat_map
  listing_start alone ls f = record {
    below = omega arith;
    short = λ i h. omega (arith, f i h);
    done = [];
    left = from-full d given.dims;
    known = λ t m. absurd (Memᴰ.not-nil m);
    lists = partly_none d xs ls (cut-length d n ws) f;
    count = refl;
  }

  module _ {alone ls : List ℕ} {cells k : ℕ} (m : Listing d n ws alone ls cells k) where
    -- no more cells than all rows share, of which there are not many
    pub listing-few : cells ≤ 262144
    unfolding common
    listing-few =
        let f = shared (plain d) xs in
        let all : length (common (plain d) xs) ≡ length (flat_map f m.done) + length (flat_map f (sets_from (full d) k)) =
        ap (λ (l : List ℕ). length (flat_map f l)) (sym m.left) ∙ ap length (flat_append f m.done (sets_from (full d) k)) ∙ length-append (flat_map f m.done) (flat_map f (sets_from (full d) k)) in
        let rows : length xs ≤ 1024 = rw cut-length given.few in
        let few : length (sets d) * length xs ≤ 256 * 1024 = mul-le-mul (le_trans (sets-length d) (pow_mono given.dims)) rows in
        omega (arith, m.count, all, common-length (plain d) xs)

    pub listing-done : 256 ≤ k → (lists_of n ls ≡ our_lists d xs) × (cells ≡ length (common (plain d) xs))
    unfolding common
    listing-done h =
        let all : m.done ≡ proper (plain d) = sym (append-nil m.done) ∙ ap (λ (l : List ℕ). m.done ++ l) (sym (from-done (full d) k h)) ∙ m.left in
        (m.lists ∙ ap (partly d xs) all ∙ partly_all d xs, m.count ∙ ap (λ (l : List ℕ). length (flat_map (shared (plain d) xs) l)) all)

    module _ {s : ℕ} (h : k < 256) (e : s ≡ get_or (sets 8) k 0) where
      -- a set that is not below the full one has no turn
      pub listing_skip : full d ≤ s → Listing d n ws alone ls cells (k + 1)
      listing_skip f = record {
        below = omega arith;
        short = m.short;
        done = m.done;
        left = ap (λ (l : List ℕ). m.done ++ l) (sym (from-off (full d) k h (rw e at f))) ∙ m.left;
        known = m.known;
        lists = m.lists;
        count = m.count;
      }

      module _ (f : s < full d) where
        turn : m.done ++ s ∷ sets_from (full d) (k + 1) ≡ proper (plain d)
        turn = rw e (ap (λ (l : List ℕ). m.done ++ l) (sym (from_on (full d) k h (rw e at f))) ∙ m.left)

        joined : (m.done ++ s ∷ []) ++ sets_from (full d) (k + 1) ≡ proper (plain d)
        joined = append_snoc m.done s (sets_from (full d) (k + 1)) ∙ turn

        -- the rows that come out alone
        abbrev new : List ℕ
        new = keep (is_new alone s) (left_out 2 xs n s)

        lists-next : noted s new (lists_of n ls) ≡ partly d xs (m.done ++ s ∷ [])
        lists-next =
            ap (noted s new) m.lists
            ∙ partly_noted d n ws given.dims given.few given.size given.base m.done (sets_from (full d) (k + 1)) s turn f alone m.known

        pub listing_lower : Lower d n ws alone s
        listing_lower = lone_lower d n ws given.dims given.few given.size given.base m.done (sets_from (full d) (k + 1)) s turn f alone m.known

        count_next : cells + length (shared (plain d) xs s) ≡ length (flat_map (shared (plain d) xs) (m.done ++ s ∷ []))
        unfolding flat_map
        count_next = rw (flat_append (shared (plain d) xs) m.done (s ∷ []), append-nil, m.count) (sym (length-append (flat_map (shared (plain d) xs) m.done) (shared (plain d) xs s)))

        pub listing_fit : Fit (noted s new (lists_of n ls))
        listing_fit = subst Fit (sym lists-next) (partly_fit d xs given.dims (m.done ++ s ∷ []) (sets_from (full d) (k + 1)) joined)

        known_next : {alone₂ : List ℕ} → Told d n ws alone alone₂ s → (t : ℕ) → t ∈ m.done ++ s ∷ [] → AloneOn d n ws alone₂ t
        known_next g t i = cases (truth (eqb t s))
            (λ q. rw (eqb-true t s q) g.here)
            (λ q x l. ap (λ (w : List ℕ). has w x) (g.others t (eqb-false t s q))
            ∙ m.known t (cases (Memᴰ.append_cases m.done i) (λ j. j) (λ j. absurd (eqb-false t s q (Memᴰ.eq_of_singleton j)))) x l)

        pub listing-more : {alone₂ ls' : List ℕ} {r : ℕ} → Told d n ws alone alone₂ s → (lists_of n ls' ≡ noted s new (lists_of n ls)) × Short n ls'
            → r ≡ ends (packed (crowds 2 (key s xs) n)) → Listing d n ws alone₂ ls' (cells + r) (k + 1)
        listing-more o g c = record {
          below = omega arith;
          short = g.1;
          done = m.done ++ s ∷ [];
          left = joined;
          known = known_next o;
          lists = g.0 ∙ lists-next;
          count = ap (λ (t : ℕ). cells + t) (c ∙ ends-shared d n s ws given.size given.few given.base) ∙ count_next;
        }
