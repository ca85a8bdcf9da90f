-- Shares as fields (document 02, C-22): "the number of cells, then each cell's whole cents, as 32-bit fields, in listing order".
--
--   fee_bytes fee ws   what is listed for a fee and the cells' counts
use Rattle.std.specs.Prelude.{List, ℕ}
use Rattle.fee_shares.specs.Shares.{shares}
use Rattle.archive_cells.specs.ListBytes.{list_bytes}

unfoldable pub fee_bytes : ℕ → List ℕ → List ℕ
fee_bytes fee ws = list_bytes (shares fee ws)
