-- Laws of writing part by part, for loops and for sections that follow one another.
use Rattle.std.specs.Prelude.{◌≡◌, refl, [], List, ◌++◌, ℕ, ◌+◌, ◌-◌, ◌≤◌, length}
use Rattle.std.proofs.Common.{sym, ap, subst, ◌∙◌, append_assoc, append-nil, arith, length-append}
use borrow.Rule.Slice.PartMut.{mid_of, put_mid}
use Rattle.fields.specs.Written.{Wrote}
use Rattle.fields.specs.WrittenLaws.{wrote_none, wrote_then}
use Rattle.archive_cells.specs.Writing.{Writing}

module _ {A : Type 0} where
  pub writing_none : (all l : List A) → Writing all all l l 0
  writing_none all l = record { done = []; wrote = wrote_none l; whole = refl }

  -- one part more is written over the front of the rest
  pub writing_more : {all l m r : List A} {at k : ℕ} (part left : List A) → Writing all (part ++ left) l m at
      → Wrote part (mid_of at (length m - at) m) r k → Writing all left l (put_mid at (length m - at) m r) (at + k)
  writing_more part left w s = record {
    done = w.done ++ part;
    wrote = wrote_then w.wrote s;
    whole = append_assoc w.done part left ∙ w.whole;
  }

  pub writing_done : {all l m : List A} {at : ℕ} → Writing all [] l m at → Wrote all l m at
  writing_done {all} {l} {m} {at} w = let e : w.done ≡ all = sym (append-nil w.done) ∙ w.whole in rw e at w.wrote

  -- there is room for the part where there is room for all
  pub writing_room : {all l m : List A} {at : ℕ} (part left : List A) → Writing all (part ++ left) l m at → length all ≤ length l → at + length part ≤ length m
  writing_room {all} {l} {m} {at} part left w h =
      omega (arith, w.wrote.count, w.wrote.same, ap length w.whole, length-append w.done (part ++ left), length-append part left)

  -- the same list by another name
  pub wrote_as : {xs ys l m : List A} {n : ℕ} → xs ≡ ys → Wrote xs l m n → Wrote ys l m n
  wrote_as {l} {m} {n} e w = subst (λ (zs : List A). Wrote zs l m n) e w
