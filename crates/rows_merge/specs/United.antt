-- Base rows of two archives as one list (document 02, C-15).
--
--   as_one M r q     two rows with equal codes as one: the codes, and both totals
--   united M d a b  the base rows a and b in one archive: both lists, folded
--   merged M a b    the same in one pass over two rising lists: the earlier row first, and rows with equal codes as one
--   step            one step of merged, by two tests
--   Merging         the invariant of that pass: what is done, and the merge of what is left, are the merge
use Rattle.std.specs.Prelude.{◌≡◌, Bool, true, false, List, [], ◌∷◌, ◌++◌, ℕ}
use Rattle.lists.specs.Order.{earlier}
use Rattle.cube.specs.Measure.{Measure, Row}
use Rattle.cube.specs.Table.{folded}

module _ {A : Type 0} (M : Measure A) where
  abbrev pub as_one : Row A → Row A → Row A
  as_one r q = record { codes = r.codes; total = M.more r.total q.total }

  unfoldable pub united : ℕ → List (Row A) → List (Row A) → List (Row A)
  united d a b = folded M d (a ++ b)

  -- by whether r comes before q and q before r: r and what follows it, q and what follows it, or both as one and what follows both
  abbrev pub step : Bool → Bool → Row A → Row A → List (Row A) → List (Row A) → List (Row A) → List (Row A)
  step true t r q k l m = r ∷ k
  step false true r q k l m = q ∷ l
  step false false r q k l m = as_one r q ∷ m

  abbrev pub merged : List (Row A) → List (Row A) → List (Row A)
  merged [] b = b
  merged (r ∷ a) [] = r ∷ a
  merged (r ∷ a) (q ∷ b) = step (earlier r.codes q.codes) (earlier q.codes r.codes) r q (merged a (q ∷ b)) (merged (r ∷ a) b) (merged a b)

  pub record Merging (a b done left right : List (Row A)) : Type 0 where
    pub whole : done ++ merged left right ≡ merged a b
