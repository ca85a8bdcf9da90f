-- No two stops have one number, so that an answer is settled by its numbers.
use Rattle.std.specs.Prelude.{◌≡◌, refl, cond, eqb, List, [], ◌∷◌, ℕ, Result, Ok, Err}
use Rattle.std.proofs.Common.{sym, ap, ◌∙◌}
use Rattle.stops.specs.declared.Stop.{Stop}
use Rattle.stops.specs.declared.Stop.TheVariants as Why
use Rattle.stops.specs.Numbers.{number, numbered}

-- the first stop of a list that has a number
abbrev first_of : List Stop → ℕ → Stop
first_of [] n = Why.Opening
first_of (e ∷ es) n = cond (eqb (number e) n) e (first_of es n)

abbrev named : ℕ → Stop
named = first_of (Why.Opening ∷ Why.Cut ∷ Why.Dimensions ∷ Why.Size ∷ Why.Rows ∷ Why.Code ∷ Why.Order ∷ Why.Amount ∷ Why.List ∷ Why.Trailing ∷ Why.CheckWord ∷ Why.Entries ∷ Why.Question ∷ Why.Set ∷ Why.Output ∷ Why.Dimension ∷ Why.Sizes ∷ Why.Many ∷ Why.Window ∷ Why.Fee ∷ Why.NoRows ∷ [])

named_number : (e : Stop) → named (number e) ≡ e
named_number Why.Opening = refl
named_number Why.Cut = refl
named_number Why.Dimensions = refl
named_number Why.Size = refl
named_number Why.Rows = refl
named_number Why.Code = refl
named_number Why.Order = refl
named_number Why.Amount = refl
named_number Why.List = refl
named_number Why.Trailing = refl
named_number Why.CheckWord = refl
named_number Why.Entries = refl
named_number Why.Question = refl
named_number Why.Set = refl
named_number Why.Output = refl
named_number Why.Dimension = refl
named_number Why.Sizes = refl
named_number Why.Many = refl
named_number Why.Window = refl
named_number Why.Fee = refl
named_number Why.NoRows = refl

pub one_number : (e f : Stop) → number e ≡ number f → e ≡ f
one_number e f h = sym (named_number e) ∙ (ap named h ∙ named_number f)

pub one_numbered : {A : Type 0} (r q : Result A Stop) → numbered r ≡ numbered q → r ≡ q
one_numbered (Ok x) (Ok y) h = cc h
one_numbered (Ok x) (Err f) h = cc h
one_numbered (Err e) (Ok y) h = cc h
one_numbered (Err e) (Err f) h = ap Err (one_number e f (cc h))
