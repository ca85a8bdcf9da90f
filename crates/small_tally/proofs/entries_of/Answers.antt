-- `small_tally::entries_of` meets its contract: what was written, cut into rows, is the codes of table t.
use mathlib.Core.Path.{◌≡◌, ap, ◌∙◌}
use mathlib.Core.List.{List}
use Prim.Native.Nat.{ℕ}
use native.Mathlib.Omega.{arith}
use Rattle.fields.specs.WrittenLaws.{wrote_within}
use Rattle.rows.proofs.Fronts.{fronted, of_front}
use Rattle.small_model.specs.Small.{table}
use Rattle.small_model.specs.Tally.{entries}
use Rattle.small_tally.proofs.Entries.{Tabled, entries_in, rows-room, rows-whole, made-rows, made-entries}
use Rattle.small_tally.proofs.entries_of.Goals as goal

pub put_table-size-requires : goal.put_table-size-requires
put_table-size-requires c = (omega (arith, c.requires), rows-room c.args.dims _ c.requires)

pub front-requires : goal.front-requires
front-requires c =
    let w = c.put_table-size.ensures.wrote in
    (omega (arith, c.requires), rw (rows-whole c.args.dims _ w) (wrote_within w))

pub rows_entries-requires : goal.rows_entries-requires
rows_entries-requires c =
    fronted c.put_table-size.new.out Tabled c.front.ensures (made-rows c.args.dims _ c.put_table-size.ensures.wrote c.requires)

pub returns : goal.returns
returns c =
    made-entries c.args.dims _ c.put_table-size.ensures.wrote
    (of_front c.put_table-size.new.out (λ (d n : ℕ) (ws : List ℕ). c.rows_entries.result ≡ entries_in d n ws) c.front.ensures c.rows_entries.ensures)
    ∙ ap (λ (t : ℕ). entries c.args.dims (table c.args.dims t)) (omega arith)
