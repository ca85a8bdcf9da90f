-- `call_expansion::cuboid_len` meets its contract: the slot tells how many cells there are, and each has the same length.
use mathlib.Core.Path.{sym, ap, ◌∙◌}
use Prim.Native.Nat.{ℕ, ◌+◌, ◌*◌, ◌≤◌}
use native.Mathlib.Nat.{mul-le-mul}
use native.Mathlib.Omega.{arith}
use Rattle.call_expansion.proofs.Slots.{cells-few, slot_long}
use Rattle.call_expansion.proofs.cuboid_len.Goals as goal

-- no more than 1,024 cells
size : (c : goal.After-count_cells-count) → c.count_cells-count.result * (4 * c.args.rows.now.dims + 12) ≤ 45056
size c =
    let p = c.requires in
    let few : c.count_cells-count.result ≤ 1024 = omega (arith, c.count_cells-count.ensures, cells-few p.0 p.1 c.slot_of-slot.ensures) in
    let wide : 4 * c.args.rows.now.dims + 12 ≤ 44 = omega (arith, p.0.ready.dims) in
    let m = mul-le-mul few wide in omega (arith, m)

pub overflow_mul-result-2 : goal.overflow_mul-result-2
overflow_mul-result-2 c = omega (arith, size c)

pub overflow_add-result-2 : goal.overflow_add-result-2
overflow_add-result-2 c = omega (arith, size c)

pub returns-clause-value : goal.returns-clause-value
returns-clause-value c =
    let p = c.requires in
    ap (λ (n : ℕ). 4 + n * (4 * c.args.rows.now.dims + 12)) c.count_cells-count.ensures ∙ sym (slot_long p.0 p.1 c.slot_of-slot.ensures)

pub returns-clause-upper_bound : goal.returns-clause-upper_bound
returns-clause-upper_bound c = omega (arith, size c)
