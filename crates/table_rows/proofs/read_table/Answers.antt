-- `table_rows::read_table` meets its contract: a table that passes has its rows behind the header, and their base rows are stored.
use mathlib.Core.Path.{◌≡◌, sym, ap, ◌∙◌, subst}
use mathlib.Core.List.{List}
use Prim.Native.Nat.{ℕ, ◌+◌, ◌*◌, ◌<◌}
use mir.Val.{Fits}
use mir.Syntax.{w8}
use native.Mathlib.Omega.{arith}
use borrow.Author.Rules.{rules}
use lib.ListN.{length, get_or}
use Rattle.lists.proofs.Members.{in_at}
use Rattle.fields.specs.Words.{word_at}
use Rattle.fields_walk.specs.Limits.{Bytes}
use Rattle.table.specs.Reading.{Rowed}
use Rattle.table_rows.proofs.Rows.{Placed, placed, rowed_table, read_answer}
use Rattle.table_rows.proofs.read_table.Goals as goal
use Rattle.table_rows.proofs.read_table.Goals.{In_ok-check_table, After-word_at-dims, After-word_at-n}

-- what stands where
there : (c : goal.In_ok-check_table) → Placed c.args.s.now c.in_ok-check_table.ensures.says.0
there c = let g = c.in_ok-check_table.ensures.says in placed c.args.s.now g.0 g.1

bytes : (s : List ℕ) → ((i : ℕ) → Fits w8 (get_or s i 0)) → Bytes s
bytes s t b m = let k = in_at 0 m in subst (λ (x : ℕ). x < 256) k.2 (t k.0).fits

-- D and the row count
dims : (c : goal.After-word_at-dims) → Placed c.args.s.now c.in_ok-check_table.ensures.says.0 → c.word_at-dims.result ≡ length c.in_ok-check_table.ensures.says.0.sizes
dims c p = c.word_at-dims.ensures ∙ sym p.dims

count : (c : goal.After-word_at-n)
    → Placed c.args.s.now c.in_ok-check_table.ensures.says.0
    → c.word_at-dims.result ≡ length c.in_ok-check_table.ensures.says.0.sizes
    → c.word_at-n.result ≡ length c.in_ok-check_table.ensures.says.0.rows
count c p e = c.word_at-n.ensures ∙ ap (λ (d : ℕ). word_at c.args.s.now (8 + 4 * d)) e ∙ sym p.count

pub word_at-dims-requires : goal.word_at-dims-requires
word_at-dims-requires c = omega (arith, (there c).whole)

pub word_at-n-requires : goal.word_at-n-requires
word_at-n-requires c = omega (arith, (there (goal.at.word_at-n-requires c).In_ok-check_table).whole, (there (goal.at.word_at-n-requires c).In_ok-check_table).dims, c.word_at-dims.ensures)

pub fold_table-count-requires : goal.fold_table-count-requires
fold_table-count-requires c =
    let s = c.args.s.now in
    let g = c.in_ok-check_table.ensures.says in
    let p = there (goal.at.fold_table-count-requires c).In_ok-check_table in
    let d = dims (goal.at.fold_table-count-requires c).After-word_at-dims p in
    let n = count (goal.at.fold_table-count-requires c).After-word_at-n p d in
    let r = rowed_table s g.0 (bytes s c.type_inv.s) g.1 in
    (subst (λ (d : ℕ). Rowed s d c.word_at-n.result) (sym d) (subst (Rowed s (length g.0.sizes)) (sym n) r), search rules)

pub returns : goal.returns
returns c =
    let g = c.in_ok-check_table.ensures.says in
    let p = there (goal.at.returns c).In_ok-check_table in
    let d = dims (goal.at.returns c).After-word_at-dims p in
    let n = count (goal.at.returns c).After-word_at-n p d in
    let e = read_answer c.args.s.now g.0 g.1 c.word_at-dims.result c.word_at-n.result c.fold_table-count.result d n _ c.fold_table-count.ensures.rows_after in
    record { value = e.0; stored = e.1 }
