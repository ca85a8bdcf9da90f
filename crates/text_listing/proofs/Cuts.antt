-- A loop over things of one length, which are cut one by one from bytes that hold nothing else: the line of each is written.
use mathlib.Core.Path.{◌≡◌, refl, sym, ap, ◌∙◌}
use mathlib.Core.List.Memᴰ
use mathlib.Core.List.{List, [], ◌∷◌, ◌++◌, flat_map}
use Prim.Native.Nat.{ℕ, ◌+◌, ◌-◌, ◌≤◌, ◌<◌}
use native.Mathlib.Omega.{arith}
use lib.ListN.{length, take, drop, length-append}
use lib.Seq.{take_at, drop_at}
use borrow.Rule.Slice.PartMut.{mid_of, put_mid}
use Rattle.lists.specs.Lists.{◌∈◌}
use Rattle.fields.specs.Written.{Wrote}
use Rattle.archive_cells.specs.Writing.{Writing}
use Rattle.archive_cells.specs.WritingLaws.{writing_more, writing_done, writing_room}

module _ {A : Type 0} (bytes line : A → List ℕ) (P : A → Type 0) where
  -- what is left to be cut, and to be written
  pub record Cut (rest all l m : List ℕ) (done : ℕ) : Type 0 where
    pub left : List A
    pub here : rest ≡ flat_map bytes left
    pub each : (x : A) → x ∈ left → P x
    pub writing : Writing all (flat_map line left) l m done

  -- the bytes that are cut off are a thing's
  pub record Next (b more all l m : List ℕ) (done : ℕ) : Type 0 where
    pub thing : A
    pub known : P thing
    pub is : b ≡ bytes thing
    pub behind : List A
    pub here : more ≡ flat_map bytes behind
    pub each : (x : A) → x ∈ behind → P x
    pub writing : Writing all (line thing ++ flat_map line behind) l m done

  module _ {all l m : List ℕ} {done : ℕ} where
    -- its line is written
    pub cut_on : {b more r : List ℕ} {k : ℕ} → (n : Next b more all l m done) → Wrote (line n.thing) (mid_of done (length m - done) m) r k
        → Cut more all l (put_mid done (length m - done) m r) (done + k)
    cut_on n w = record { left = n.behind; here = n.here; each = n.each; writing = writing_more (line n.thing) (flat_map line n.behind) n.writing w }

    pub cut_room : {b more : List ℕ} → (n : Next b more all l m done) → length all ≤ length l → done + length (line n.thing) ≤ length m
    cut_room n h = writing_room (line n.thing) (flat_map line n.behind) n.writing h

    module _ (width : ℕ) (some : 0 < width) (long : (x : A) → P x → length (bytes x) ≡ width) {rest : List ℕ} (t : Cut rest all l m done) where
      pub cut-done : length rest < width → Wrote all l m done
      unfolding flat_map
      cut-done h = go t.left t.here t.each t.writing
        where
          go : (left : List A) → rest ≡ flat_map bytes left → ((x : A) → x ∈ left → P x) → Writing all (flat_map line left) l m done → Wrote all l m done
          go [] e p w = writing_done w
          go (x ∷ left) e p w = absurd (omega (arith, h, ap length e, length-append (bytes x) (flat_map bytes left), long x (p x (Memᴰ.head refl))))

      pub cut_next : (b more : List ℕ) → rest ≡ b ++ more → length b ≡ width → Next b more all l m done
      unfolding flat_map
      cut_next b more f n = go t.left (sym f ∙ t.here) t.each t.writing
        where
          go : (left : List A) → b ++ more ≡ flat_map bytes left → ((x : A) → x ∈ left → P x) → Writing all (flat_map line left) l m done → Next b more all l m done
          go [] e p w = absurd (omega (arith, some, n, ap length e, length-append b more))
          go (x ∷ left) e p w =
              let k : length (bytes x) ≡ length b = long x (p x (Memᴰ.head refl)) ∙ sym n in record {
                thing = x;
                known = p x (Memᴰ.head refl);
                is = sym (take_at b more (length b) refl) ∙ ap (take (length b)) e ∙ take_at (bytes x) (flat_map bytes left) (length b) k;
                behind = left;
                here = sym (drop_at b more (length b) refl) ∙ ap (drop (length b)) e ∙ drop_at (bytes x) (flat_map bytes left) (length b) k;
                each = λ y i. p y (Memᴰ.tail i);
                writing = w;
              }
