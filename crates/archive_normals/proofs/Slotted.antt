-- The slot of a set, and its groups as the normal entries of the set.
use mathlib.Core.Path.{◌≡◌, ap, ◌∙◌}
use mathlib.Core.List.{List, flat_map}
use Prim.Native.Nat.{ℕ, ◌<◌}
use lib.ListN.{get_or}
use Rattle.lattice.specs.Sets.{full}
use Rattle.rows.specs.Rows.{cut, rows_of, row_total}
use Rattle.archive_entries.specs.Layout.{cell_bytes}
use Rattle.rows_order.specs.Index.{key}
use Rattle.rows_columns.specs.Columns.{part}
use Rattle.rows_crowds.specs.Crowds.{Holds}
use Rattle.rows_condense.proofs.Groups.{slot-shared}
use Rattle.archive_groups.specs.Groups.{Groupable, group_bytes}
use Rattle.archive_groups.proofs.Groupable.{groupable}
use Rattle.archive_normals.specs.Grouped.{Grouped}
use Rattle.archive_normals.specs.Normals.{shared_bytes}

module _ {d n : ℕ} {ws store used : List ℕ} (rows : Grouped d n ws store used) {s : ℕ} (h : s < full d) where
  held : Holds 2 d n ws store used s
  held = rows.slots.all s h

  module _ {slot : List ℕ} (e : slot ≡ part s (get_or used s 0) store) where
    pub slot_groupable : Groupable d n ws slot
    slot_groupable = groupable rows.ready 2 s slot (e ∙ held.slot)

    pub slot-bytes : group_bytes (row_total d n ws) (key s (cut d n ws)) slot ≡ shared_bytes d (rows_of d n ws) s
    unfolding group_bytes shared_bytes
    slot-bytes = ap (flat_map cell_bytes) (slot-shared rows.ready s slot (e ∙ held.slot))
