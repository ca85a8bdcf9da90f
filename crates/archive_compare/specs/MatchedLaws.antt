-- Laws of bytes compared part by part, for loops and for sections that follow one another.
use Rattle.std.specs.Prelude.{◌≡◌, refl, Bool, true, false, ◌&&◌, List, [], ◌++◌, ℕ, ◌+◌, ◌-◌, ◌≤◌, ◌<◌, length, drop, Result, Ok, Err}
use Rattle.std.proofs.Common.{sym, ap, subst, ◌∙◌, append_assoc, append-nil, add-zero, arith, length-append, length-drop, drop-drop}
use Rattle.lists.proofs.Tests.{refuted}
use Rattle.fields.specs.Opening.{starts_with}
use Rattle.fields.specs.OpeningLaws.{starts_with_append, starts_length}
use Rattle.stops.specs.declared.Stop.{Stop}
use Rattle.stops.specs.declared.Stop.TheVariants as Why
use Rattle.archive_compare.specs.Matched.{Matched, Matching}

pub matching_none : (all s : List ℕ) (at : ℕ) → at ≤ length s → Matching all all s at at
matching_none all s at h = record { done = []; whole = refl; begun = refl; place = sym (add-zero at); within = h }

-- what is left settles whether more than what is done stands there
matching_rest : {all left s : List ℕ} {at₀ at : ℕ} (w : Matching all left s at₀ at) (xs : List ℕ)
    → starts_with (drop at₀ s) (w.done ++ xs) ≡ starts_with (drop at s) xs
matching_rest {s = s} {at₀ = at₀} w xs =
    starts_with_append (drop at₀ s) w.done xs
    ∙ ap (λ (b : Bool). b && starts_with (drop (length w.done) (drop at₀ s)) xs) w.begun
    ∙ ap (λ (l : List ℕ). starts_with l xs) (drop-drop (length w.done) at₀ s ∙ ap (λ (k : ℕ). drop k s) (sym w.place))

-- one part more stands there
pub matching_more : {all s : List ℕ} {at₀ at k : ℕ} (part left : List ℕ) → Matching all (part ++ left) s at₀ at → Matched s at part (Ok k) → Matching all left s at₀ k
matching_more part left w m = record {
  done = w.done ++ part;
  whole = append_assoc w.done part left ∙ w.whole;
  begun = matching_rest w part ∙ m.meets.0;
  place = omega (arith, m.meets.1, w.place, length-append w.done part);
  within = m.meets.2;
}

-- the next part does not
pub matching_off : {all s : List ℕ} {at₀ at : ℕ} {e : Stop} (part left : List ℕ) → Matching all (part ++ left) s at₀ at → Matched s at part (Err e) → Matched s at₀ all (Err e)
matching_off {all} {s} {at₀} {at} part left w m =
    let e : starts_with (drop at₀ s) (w.done ++ (part ++ left)) ≡ false =
    matching_rest w (part ++ left) ∙ starts_with_append (drop at s) part left ∙ ap (λ (b : Bool). b && starts_with (drop (length part) (drop at s)) left) m.meets.1 in
    record { meets = (m.meets.0, rw w.whole at e) }

pub matching_done : {all s : List ℕ} {at₀ at : ℕ} → Matching all [] s at₀ at → Matched s at₀ all (Ok at)
matching_done {all} {s} {at₀} w =
    let e : w.done ≡ all = sym (append-nil w.done) ∙ w.whole in
    record { meets = (ap (starts_with (drop at₀ s)) (sym e) ∙ w.begun, w.place ∙ ap (λ (l : List ℕ). at₀ + length l) e, w.within) }

-- ---- one part

module _ {s xs : List ℕ} {at : ℕ} (h : at ≤ length s) where
  pub matched_on : starts_with (drop at s) xs ≡ true → Matched s at xs (Ok (at + length xs))
  matched_on e = record { meets = (e, refl, omega (arith, h, starts_length (drop at s) xs e, length-drop at s)) }

  pub matched_none : starts_with (drop at s) xs ≡ false → Matched s at xs (Err Why.Entries)
  matched_none e = record { meets = (refl, e) }

  -- there are fewer bytes than the part has
  pub matched_short : length s - at < length xs → Matched s at xs (Err Why.Entries)
  matched_short k = matched_none (refuted (λ t. omega (arith, k, starts_length (drop at s) xs t, length-drop at s)))

-- the same bytes by another name
pub matched_as : {s xs ys : List ℕ} {at : ℕ} {w : Result ℕ Stop} → xs ≡ ys → Matched s at xs w → Matched s at ys w
matched_as {s} {at} {w} e m = subst (λ (zs : List ℕ). Matched s at zs w) e m

-- what a case of the answer tells
pub matched_told : {s xs : List ℕ} {at : ℕ} {w v : Result ℕ Stop} → w ≡ v → Matched s at xs w → Matched s at xs v
matched_told {s} {xs} {at} e m = subst (λ (u : Result ℕ Stop). Matched s at xs u) e m

-- ---- two parts, one behind the other

module _ {s xs : List ℕ} {at : ℕ} (ys : List ℕ) where
  -- what stops a part stops the whole
  pub matched_stop : {e : Stop} → Matched s at xs (Err e) → Matched s at (xs ++ ys) (Err e)
  matched_stop m = record { meets = (m.meets.0, starts_with_append (drop at s) xs ys ∙ rw m.meets.1) }

  -- the first part stands there, so the second settles it
  starts_then : {k : ℕ} → Matched s at xs (Ok k) → starts_with (drop at s) (xs ++ ys) ≡ starts_with (drop k s) ys
  starts_then m = starts_with_append (drop at s) xs ys ∙ rw (m.meets.0, drop-drop (length xs) at s) (ap (λ (j : ℕ). starts_with (drop j s) ys) (sym m.meets.1))

  pub matched_then : {k : ℕ} (w : Result ℕ Stop) → Matched s at xs (Ok k) → Matched s k ys w → Matched s at (xs ++ ys) w
  matched_then (Err e) m v = record { meets = (v.meets.0, starts_then m ∙ v.meets.1) }
  matched_then (Ok j) m v = record { meets = (starts_then m ∙ v.meets.0, omega (arith, v.meets.1, m.meets.1, length-append xs ys), v.meets.2) }
