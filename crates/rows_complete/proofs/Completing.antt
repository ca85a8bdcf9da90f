-- A loop over the sets in lattice order that completes their slots: a set that had a turn has all groups in its slot, and each other one those of so many rows or more.
use mathlib.Core.Path.{◌≡◌, refl, sym, ap, subst, ◌∙◌}
use mathlib.Core.Bool.{Bool}
use mathlib.Core.List.{List, [], ◌∷◌}
use Prim.Native.Nat.{ℕ, suc, ◌+◌, ◌*◌, ◌≤◌, ◌<◌}
use native.Mathlib.Omega.{arith}
use lib.Dec.{eqb}
use lib.ListN.{length, get_or, drop, length-append, length-drop}
use lib.Seq.{length-take-le}
use borrow.Author.Tests.{eqb-true, eqb-false, le-leb}
use Rattle.lists.specs.Lists.{keep}
use Rattle.lists.proofs.Tests.{cases, truth}
use Rattle.lists.proofs.Members.{keep_all}
use Rattle.lattice.specs.Sets.{sets}
use Rattle.rows.specs.Rows.{cut}
use Rattle.rows_order.specs.Index.{key, arranged}
use Rattle.rows_runs.specs.Runs.{Run, members, runs}
use Rattle.rows_order.proofs.Arranged.{arranged-length}
use Rattle.rows_slots.specs.Slots.{flat, large, crowds, packed}
use Rattle.rows_slots.proofs.Groups.{flat-runs}
use Rattle.rows_slots.proofs.Entries.{slot-length}
use Rattle.rows_columns.specs.Columns.{part}
use Rattle.rows_crowds.specs.Crowds.{Holds, AllHold, Filled}
use Rattle.rows_crowds.proofs.Turns.{Filling, filling_start, filling_skip, filling_more}

-- ---- a slot that has every row has all groups

flat_fewer : (q : Run → Bool) (rs : List Run) → length (flat (keep q rs)) ≤ length (flat rs)
flat_fewer q [] = omega arith
flat_fewer q (r ∷ rs) =
    let more = length-append (members r) (flat rs) in
    cases (truth (q r))
    (λ t. rw t (omega (arith, flat_fewer q rs, more, length-append (members r) (flat (keep q rs)))))
    (λ t. rw t (omega (arith, flat_fewer q rs, more)))

-- every run has a row
keep-whole : (q : Run → Bool) (rs : List Run) → length (flat (keep q rs)) ≡ length (flat rs) → keep q rs ≡ rs
keep-whole q [] e = refl
keep-whole q (r ∷ rs) e =
    let more = length-append (members r) (flat rs) in
    cases (truth (q r))
    (λ t. let f = rw t at e in rw t (ap (λ (l : List Run). r ∷ l) (keep-whole q rs (omega (arith, f, more, length-append (members r) (flat (keep q rs)))))))
    (λ t. let f = rw t at e in absurd (omega (arith, f, more, flat_fewer q rs)))

pub crowds-whole : (least : ℕ) (keys : ℕ → List ℕ) (n : ℕ) → n ≤ 1024 → length (packed (crowds least keys n)) ≡ n → crowds least keys n ≡ crowds 1 keys n
unfolding crowds
crowds-whole least keys n few e =
    let rs = runs keys (arranged keys n) in
    keep-whole (large least) rs (sym (slot-length keys n least few) ∙ e ∙ sym (arranged-length keys n) ∙ ap length (sym (flat-runs keys (arranged keys n))))
    ∙ sym (keep_all (large 1) rs (λ r m. le-leb 1 (suc (length r.more)) (omega arith)))

module _ {least d n : ℕ} {ws store sizes : List ℕ} {s : ℕ} (few : n ≤ 1024) (low : s < 256) (room : 262144 ≤ length store) (h : Holds least d n ws store sizes s) (e : get_or sizes s 0 ≡ n) where
  long : length (part s (get_or sizes s 0) store) ≡ n
  long = length-take-le (get_or sizes s 0) (drop (s * 1024) store) (omega (arith, e, few, low, room, length-drop (s * 1024) store)) ∙ e

  -- and is filled as it stands
  pub whole-filled : Filled 1 d n ws store sizes store sizes s
  whole-filled = record {
    here = record {
      few = h.few;
      slot = h.slot ∙ ap packed (crowds-whole least (key s (cut d n ws)) n few (ap length (sym h.slot) ∙ long));
    };
    others = λ k t q g. g;
  }

-- ---- the loop

pub record Completing (d n : ℕ) (ws store sizes : List ℕ) (m k : ℕ) : Type 0 where
  pub filling : Filling 1 d n ws store sizes m k
  pub each : (t : ℕ) → t < m → (least : ℕ) × Holds least d n ws store sizes t

module _ {d n : ℕ} {ws : List ℕ} {m : ℕ} (few : m ≤ 256) where
  pub completing_start : {store sizes : List ℕ} → AllHold 2 d n ws store sizes m → Completing d n ws store sizes m 0
  completing_start {store} {sizes} h = record { filling = filling_start few store sizes; each = λ t l. (2, h.all t l) }

  module _ {store sizes : List ℕ} {k s : ℕ} (f : Completing d n ws store sizes m k) (h : k < 256) (e : s ≡ get_or (sets 8) k 0) where
    pub completing_skip : m ≤ s → Completing d n ws store sizes m (k + 1)
    completing_skip l = record { filling = filling_skip few f.filling h e l; each = f.each }

    pub completing_more : s < m → {store₂ sizes₂ : List ℕ} → Filled 1 d n ws store sizes store₂ sizes₂ s → Completing d n ws store₂ sizes₂ m (k + 1)
    completing_more l {store₂} {sizes₂} g = record {
      filling = filling_more few f.filling h e l g;
      each = λ t b. cases (truth (eqb t s))
          (λ q. (1, subst (Holds 1 d n ws store₂ sizes₂) (sym (eqb-true t s q)) g.here))
          (λ q. let w = f.each t b in (w.0, g.others w.0 t (eqb-false t s q) w.1));
    }

-- one set more is filled
pub all_more : {least d n : ℕ} {ws store sizes store₂ sizes₂ : List ℕ} {m : ℕ} → AllHold least d n ws store sizes m → Filled least d n ws store sizes store₂ sizes₂ m → AllHold least d n ws store₂ sizes₂ (m + 1)
all_more {least} {d} {n} {ws} {store} {sizes} {store₂} {sizes₂} {m} h g = record {
  all = λ t b. cases (truth (eqb t m))
      (λ q. subst (Holds least d n ws store₂ sizes₂) (sym (eqb-true t m q)) g.here)
      (λ q. let w = eqb-false t m q in g.others least t w (h.all t (omega (arith, b, w))));
}
