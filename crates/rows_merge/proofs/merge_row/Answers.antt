-- `rows_merge::merge_row` meets its contract: the row of whoever's turn it is goes behind those that are done, or one of each as one.
use mathlib.Core.Path.{◌≡◌, sym, ap₂, ◌∙◌}
use Prim.Native.Nat.{◌<◌}
use lib.ListN.{drop}
use Rattle.cube.specs.Measure.{plus}
use Rattle.rows.specs.Slices.{codes}
use Rattle.rows_merge.specs.declared.Turn.TheVariants.{First, Second, Both}
use Rattle.rows_merge.specs.Turns.{turn}
use Rattle.rows_merge.proofs.Pass.{pair_adds, turn-first, turn-second, turn-both, passed_first, passed_second, passed_both}
use Rattle.rows_merge.proofs.merge_row.Goals as goal
use Rattle.rows_merge.proofs.merge_row.Goals.{In-Both, In-First, In-Second}

-- whose turn it is, and that there is a row left
first : (c : goal.In-First) → (let a = c.args in turn (drop a.done.first (codes a.first.now)) (drop a.done.second (codes a.second.now)) ≡ First)
first c = sym c.next_turn.ensures ∙ c.in-First.is

first-left : (c : goal.In-First) → c.args.done.first < c.args.first.now.n
first-left c = let p = c.requires.pair in turn-first p.0 p.1 c.args.done.first c.args.done.second (first c)

second : (c : goal.In-Second) → (let a = c.args in turn (drop a.done.first (codes a.first.now)) (drop a.done.second (codes a.second.now)) ≡ Second)
second c = sym c.next_turn.ensures ∙ c.in-Second.is

second-left : (c : goal.In-Second) → c.args.done.second < c.args.second.now.n
second-left c = let p = c.requires.pair in turn-second p.0 p.1 c.args.done.first c.args.done.second (second c) c.requires.passed.of_one p.2

two : (c : goal.In-Both) → (let a = c.args in turn (drop a.done.first (codes a.first.now)) (drop a.done.second (codes a.second.now)) ≡ Both)
two c = sym c.next_turn.ensures ∙ c.in-Both.is

both_left : (c : goal.In-Both) → (let a = c.args in (a.done.first < a.first.now.n) × (a.done.second < a.second.now.n))
both_left c = let p = c.requires.pair in turn-both p.0 p.1 c.args.done.first c.args.done.second (two c)

pub codes_at-requires : goal.codes_at-requires
codes_at-requires c = first-left (goal.at.codes_at-requires c).In-First

pub total_at-requires : goal.total_at-requires
total_at-requires c = first-left (goal.at.total_at-requires c).In-First

pub codes_at-requires-in-Second : goal.codes_at-requires-in-Second
codes_at-requires-in-Second c = second-left (goal.at.codes_at-requires-in-Second c).In-Second

pub total_at-requires-in-Second : goal.total_at-requires-in-Second
total_at-requires-in-Second c = second-left (goal.at.total_at-requires-in-Second c).In-Second

pub total_at-requires-in-Both : goal.total_at-requires-in-Both
total_at-requires-in-Both c = (both_left c).0

pub total_at-requires-in-Both-2 : goal.total_at-requires-in-Both-2
total_at-requires-in-Both-2 c = (both_left (goal.at.total_at-requires-in-Both-2 c).In-Both).1

pub plus-sum-requires : goal.plus-sum-requires
plus-sum-requires c =
    let p = c.requires.pair in
    let h = both_left (goal.at.plus-sum-requires c).In-Both in
    rw (c.total_at-in-Both.ensures, c.total_at-in-Both-2.ensures) (pair_adds p.0 p.1 c.args.done.first c.args.done.second h.0 h.1)

pub codes_at-requires-in-Both : goal.codes_at-requires-in-Both
codes_at-requires-in-Both c = (both_left (goal.at.codes_at-requires-in-Both c).In-Both).0

pub returns-in-First-clause-passed_2 : goal.returns-in-First-clause-passed_2
returns-in-First-clause-passed_2 c =
    let p = c.requires.pair in
    let r = c.codes_at.ensures in
    passed_first p.0 p.1 c.args.done.first c.args.done.second c.requires.passed (rw r.1 at c.put_row.ensures) (first (goal.at.returns-in-First-clause-passed_2 c).In-First) r.0 c.total_at.ensures

pub returns-in-Second-clause-passed_2 : goal.returns-in-Second-clause-passed_2
returns-in-Second-clause-passed_2 c =
    let p = c.requires.pair in
    let r = c.codes_at-in-Second.ensures in
    let w = goal.at.returns-in-Second-clause-passed_2 c in
    passed_second p.0 p.1 c.args.done.first c.args.done.second c.requires.passed (rw (r.1, p.1) at c.put_row-in-Second.ensures) (second w.In-Second) (second-left w.In-Second) r.0 c.total_at-in-Second.ensures

pub returns-in-Both-clause-passed_2 : goal.returns-in-Both-clause-passed_2
returns-in-Both-clause-passed_2 c =
    let p = c.requires.pair in
    let r = c.codes_at-in-Both.ensures in
    let t = c.plus-sum.ensures ∙ ap₂ plus c.total_at-in-Both.ensures c.total_at-in-Both-2.ensures in
    passed_both p.0 p.1 c.args.done.first c.args.done.second c.requires.passed (rw r.1 at c.put_row-in-Both.ensures) (two (goal.at.returns-in-Both-clause-passed_2 c).In-Both) r.0 t
