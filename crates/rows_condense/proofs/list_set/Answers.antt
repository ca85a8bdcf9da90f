-- `rows_condense::list_set` meets its contract: the slot is filled, the set is noted for the rows that come out alone, and these and the ones passed over are put into its words.
use mathlib.Core.Path.{◌≡◌, sym, ap, subst, ◌∙◌}
use mathlib.Core.Bool.{◌||◌}
use mathlib.Core.List.{List}
use Prim.Native.Nat.{ℕ}
use native.Mathlib.Omega.{arith}
use lib.Dec.{eqb}
use lib.ListN.{get_or, take}
use Rattle.lists.specs.Lists.{some, keep}
use Rattle.lists.proofs.Members.{at_in, keep_in}
use Rattle.rows.specs.Slices.{codes}
use Rattle.rows_bits.specs.Rowsets.{has}
use Rattle.rows_deals.specs.Deals.{Names}
use Rattle.rows_crowds.specs.Crowds.{left_out}
use Rattle.rows_crowds.proofs.Left.{left_in}
use Rattle.rows_lists.specs.Lists.{lists_of, Fit, noted}
use Rattle.rows_alone.specs.Alone.{is_new}
use Rattle.rows_condense.proofs.Alone.{lower_passing, lower_new, lower_told}
use Rattle.rows_condense.proofs.list_set.Goals as goal
use Rattle.rows_condense.proofs.list_set.Goals.{After-fill_set-left}

-- the rows that come out alone
abbrev new-rows : List ℕ → List (List ℕ) → ℕ → ℕ → List ℕ
new-rows alone xs n s = keep (is_new alone s) (left_out 2 xs n s)

new-named : (alone : List ℕ) (xs : List (List ℕ)) (n s : ℕ) → Names (new-rows alone xs n s) n
new-named alone xs n s i h =
    let new = new-rows alone xs n s in
    (left_in 2 xs n s (get_or new i 0) (keep_in (is_new alone s) (left_out 2 xs n s) (at_in 0 new i h)).0).0

left-new : (c : goal.After-fill_set-left) → let a = c.args in take c.fill_set-left.result c.fill_set-left.new.lone ≡ new-rows a.alone.now (codes a.rows.now) a.rows.now.n a.set
left-new c = c.fill_set-left.ensures.lone_after.0 ∙ lower_new c.requires.in_bounds_2.2 c.pass_rows.new.passed c.pass_rows.ensures.1

pub fill_set-left-requires-clause-dims_bound : goal.fill_set-left-requires-clause-dims_bound
fill_set-left-requires-clause-dims_bound c =
    let p = c.requires in
    let r = c.pass_rows in
    (p.n_bound.2, p.n_bound.3, p.n_bound.4, lower_passing p.in_bounds_2.2 r.new.passed r.ensures.1 r.ensures.0, p.n_bound.5)

pub note_lone-requires : goal.note_lone-requires
note_lone-requires c =
    let a = c.args in
    let p = c.requires.n_in_bounds in
    let e = sym (left-new (goal.at.note_lone-requires c).After-fill_set-left) in
    record {
      n_in_bounds = (p.0, p.1, subst (λ (l : List ℕ). Names l a.rows.now.n) e (new-named a.alone.now (codes a.rows.now) a.rows.now.n a.set));
      fit = subst (λ (l : List ℕ). Fit (noted a.set l (lists_of a.rows.now.n a.lists.now))) e p.2;
    }

pub add_rows-requires : goal.add_rows-requires
add_rows-requires c =
    let a = c.args in
    let xs = codes a.rows.now in
    let few = c.requires.n_bound.0 in
    let names : Names (new-rows a.alone.now xs a.rows.now.n a.set) 1024 = λ i h. omega (arith, new-named a.alone.now xs a.rows.now.n a.set i h, few) in
    (subst (λ (l : List ℕ). Names l 1024) (sym (left-new (goal.at.add_rows-requires c).After-fill_set-left)) names, c.pass_rows.ensures.0)

pub returns-clause-told : goal.returns-clause-told
returns-clause-told c =
    let a = c.args in
    let r = c.pass_rows in
    let w = c.add_rows in
    let passed = r.new.passed in
    let e = left-new (goal.at.returns-clause-told c).After-fill_set-left in
    let n : (x : ℕ) → has w.new.words x ≡ some (eqb x) (new-rows a.alone.now (codes a.rows.now) a.rows.now.n a.set) || has passed x = λ x. w.ensures.1 x ∙ ap (λ (l : List ℕ). some (eqb x) l || has passed x) e in
    lower_told c.requires.in_bounds_2.2 passed r.ensures.1 w.new.words c.put_words.new.alone n c.put_words.ensures
