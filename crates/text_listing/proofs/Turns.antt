-- A loop over things of an archive that stand one behind the other: what stands at the place is read there, its line is written, and the place goes on.
use mathlib.Core.Path.{◌≡◌, refl, sym, ap, ◌∙◌}
use mathlib.Core.List.Memᴰ
use mathlib.Core.List.{List, [], ◌∷◌, ◌++◌, flat_map, append_assoc}
use Prim.Native.Nat.{ℕ, ◌+◌, ◌-◌, ◌≤◌, ◌<◌}
use native.Mathlib.Omega.{arith}
use lib.ListN.{length, drop, length-append, length-drop}
use lib.Seq.{drop-drop}
use borrow.Rule.Slice.PartMut.{mid_of, put_mid}
use Rattle.lists.specs.Lists.{◌∈◌}
use Rattle.lists.proofs.Parts.{drop-front}
use Rattle.fields.specs.Written.{Wrote}
use Rattle.archive_cells.specs.Writing.{Writing}
use Rattle.archive_cells.specs.WritingLaws.{writing_none, writing_more, writing_done, writing_room}

-- things as bytes and as lines, and what is known of each
module _ {A : Type 0} (bytes line : A → List ℕ) (P : A → Type 0) where
  -- where the loop stands before thing i of n
  pub record Turn (s : List ℕ) (xs : List A) (l m : List ℕ) (i n at done : ℕ) : Type 0 where
    pub left : List A
    pub count : i + length left ≡ n
    pub place : at ≤ length s
    pub end : List ℕ
    pub here : drop at s ≡ flat_map bytes left ++ end
    pub each : (x : A) → x ∈ left → P x
    pub writing : Writing (flat_map line xs) (flat_map line left) l m done

  pub turn-start : (s : List ℕ) (xs : List A) (l : List ℕ) {n at : ℕ} (end : List ℕ) → length xs ≡ n → at ≤ length s → drop at s ≡ flat_map bytes xs ++ end
      → ((x : A) → x ∈ xs → P x) → Turn s xs l l 0 n at 0
  turn-start s xs l end c h e p = record { left = xs; count = omega (arith, c); place = h; end = end; here = e; each = p; writing = writing_none (flat_map line xs) l }

  module _ {s : List ℕ} {xs : List A} {l m : List ℕ} {i n at done : ℕ} where
    -- the thing at the place, and those behind it
    pub next : Turn s xs l m i n at done → i < n → (x : A) × (behind : List A) × (end : List ℕ) × (i + 1 + length behind ≡ n) × (drop at s ≡ bytes x ++ (flat_map bytes behind ++ end))
        × ((y : A) → y ∈ x ∷ behind → P y) × Writing (flat_map line xs) (line x ++ flat_map line behind) l m done
    unfolding flat_map
    next t h = go t.left t.count t.here t.each t.writing
      where
        go : (left : List A) → i + length left ≡ n → drop at s ≡ flat_map bytes left ++ t.end → ((y : A) → y ∈ left → P y) → Writing (flat_map line xs) (flat_map line left) l m done
            → (x : A) × (behind : List A) × (end : List ℕ) × (i + 1 + length behind ≡ n) × (drop at s ≡ bytes x ++ (flat_map bytes behind ++ end))
            × ((y : A) → y ∈ x ∷ behind → P y) × Writing (flat_map line xs) (line x ++ flat_map line behind) l m done
        go [] c e p w = absurd (omega arith)
        go (x ∷ behind) c e p w = (x, behind, t.end, omega arith, e ∙ append_assoc (bytes x) (flat_map bytes behind) t.end, p, w)

  pub turn-done : {s : List ℕ} {xs : List A} {l m : List ℕ} {i n at done : ℕ} → Turn s xs l m i n at done → n ≤ i → Wrote (flat_map line xs) l m done
  unfolding flat_map
  turn-done {xs = xs} {l} {m} {i} {n} {done = done} t h = go t.left t.count t.writing
    where
      go : (left : List A) → i + length left ≡ n → Writing (flat_map line xs) (flat_map line left) l m done → Wrote (flat_map line xs) l m done
      go [] c w = writing_done w
      go (x ∷ behind) c w = absurd (omega arith)

-- a thing is read at its place, and so is how many bytes it takes
module _ {A : Type 0} (bytes line : A → List ℕ) (P : A → Type 0) (there : List ℕ → ℕ → A) (width : List ℕ → ℕ → ℕ)
    (reads : (s : List ℕ) (x : A) → P x → (at : ℕ) (rest : List ℕ) → at ≤ length s → drop at s ≡ bytes x ++ rest → (there s at ≡ x) × (width s at ≡ length (bytes x)))
    {s : List ℕ} {xs : List A} {l m : List ℕ} {i n at done : ℕ} (t : Turn bytes line P s xs l m i n at done) (h : i < n) where
  abbrev thing : A
  thing = (next bytes line P t h).0

  abbrev behind : List ℕ
  behind = flat_map bytes (next bytes line P t h).1 ++ (next bytes line P t h).2

  here : drop at s ≡ bytes thing ++ behind
  here = (next bytes line P t h).4

  read : (there s at ≡ thing) × (width s at ≡ length (bytes thing))
  read = reads s thing ((next bytes line P t h).5 thing (Memᴰ.head refl)) at behind t.place here

  pub thing_whole : at + width s at ≤ length s
  thing_whole = omega (arith, ap length here, length-append (bytes thing) behind, length-drop at s, t.place, read.1)

  -- there is room for its line
  pub thing_room : length (flat_map line xs) ≤ length l → done + length (line (there s at)) ≤ length m
  thing_room r = rw read.0 (writing_room (line thing) (flat_map line (next bytes line P t h).1) (next bytes line P t h).6 r)

  -- its line was written
  pub turn_on : {r : List ℕ} {k place : ℕ} → Wrote (line (there s at)) (mid_of done (length m - done) m) r k → place ≡ at + width s at
      → Turn bytes line P s xs l (put_mid done (length m - done) m r) (i + 1) n place (done + k)
  turn_on {r} {k} {place} w e =
      let g = next bytes line P t h in
      let v : Wrote (line thing) (mid_of done (length m - done) m) r k = rw read.0 at w in
      record {
        left = g.1;
        count = g.3;
        place = omega (arith, thing_whole);
        end = g.2;
        here = ap (λ (j : ℕ). drop j s) e ∙ sym (drop-drop (width s at) at s) ∙ drop-front (bytes thing) behind (width s at) here (sym read.1);
        each = λ y i. g.5 y (Memᴰ.tail i);
        writing = writing_more (line thing) (flat_map line g.1) g.6 v;
      }
