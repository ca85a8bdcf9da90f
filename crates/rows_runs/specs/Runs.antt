-- Rows in the order of their keys fall into runs: rows of one key that stand together.
--
--   Run             a first row and those that follow it
--   members r       the rows of a run
--   attach x runs   row x in front of runs: it joins the first run unless it comes before it
--   runs l          the runs of a list of rows in the order of their keys
--   again r         the rows of a run in the order of their keys, and rows of one key as they stand in the run
--   Ends l from r   the run that starts at the place `from` of l ends before the place r
use Rattle.std.specs.Prelude.{◌≡◌, cond, List, [], ◌∷◌, ℕ, suc, ◌≤◌, ◌<◌, length, get_or, drop}
use Rattle.std.proofs.Math.Seq.{slice}
use Rattle.lists.specs.Order.{earlier}
use Rattle.rows_order.specs.Index.{stable}

pub record Run : Type 0 where
  pub first : ℕ
  pub more : List ℕ

abbrev pub members : Run → List ℕ
members r = r.first ∷ r.more

module _ (key : ℕ → List ℕ) where
  abbrev pub attach : ℕ → List Run → List Run
  attach x [] = record { first = x; more = [] } ∷ []
  attach x (r ∷ rs) =
      cond (earlier (key x) (key r.first))
      (record { first = x; more = [] } ∷ r ∷ rs)
      (record { first = x; more = r.first ∷ r.more } ∷ rs)

  unfoldable pub runs : List ℕ → List Run
  runs [] = []
  runs (x ∷ l) = attach x (runs l)

  abbrev pub again : Run → List ℕ
  again r = stable key (members r)

  pub record Ends (l : List ℕ) (from r : ℕ) : Type 0 where
    pub after : from < r
    pub within : r ≤ length l
    pub run : runs (drop from l) ≡ record { first = get_or l from 0; more = slice (suc from) r l } ∷ runs (drop r l)
