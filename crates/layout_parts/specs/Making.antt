-- What is made of parts that are not refused. Assumes nothing.
--     Filled o .. p       the tables p hold just these parts in the order o, with zeros past them, and each block's
--                         beginning and each board's total
--     AreParts letter .. p    the tables p hold just these parts in the order that the letter names
use Rattle.std.specs.Prelude.{◌≡◌, ℕ, ◌+◌, ◌-◌, ◌*◌, ◌<◌, ◌≤◌, List, length, take, drop, replicate, Some, slice_index}
use Rattle.layout_parts.specs.Buildable.{Buildable}
use Rattle.layout_parts.specs.declared.parts.Parts.{Parts}
use Rattle.layout_parts.specs.Refusals.{order_of}
use Rattle.layout_parts.specs.Tables.{Faultless, table_grid}
use Rattle.splits.specs.declared.order.Order.{Order}
use Rattle.splits.specs.Blocks.{Grid, grid}
use Rattle.splits.specs.Owners.{owner_rule}
use Rattle.splits.specs.Places.{start, total}
use Rattle.splits.specs.Splits.{split_rule}

-- the grid that the tables hold
abbrev pub grid_in : Parts → Grid
grid_in p = table_grid p.row_blocks p.column_blocks p.tables.row_splits p.tables.column_splits p.tables.owners p.order

pub record Filled (o : Order) (n high wide : ℕ) (rs cs os : List ℕ) (p : Parts) : Type 0 where
  pub order : p.order ≡ o
  pub down : (1 ≤ p.row_blocks) × (p.row_blocks ≤ 32)
  pub across : (1 ≤ p.column_blocks) × (p.column_blocks ≤ 32)
  pub tabled : (length p.tables.row_splits ≡ 33) × (length p.tables.column_splits ≡ 33) × (length p.tables.owners ≡ 1024) × (length p.tables.starts ≡ 1024) × (length p.tables.totals ≡ 16)
  pub rowed : Faultless (split_rule high) (take (p.row_blocks + 1) p.tables.row_splits)
  pub columned : Faultless (split_rule wide) (take (p.column_blocks + 1) p.tables.column_splits)
  pub owned : Faultless (owner_rule (p.row_blocks * p.column_blocks) n) (take (p.row_blocks * p.column_blocks) p.tables.owners)
  pub lists : grid_in p ≡ grid rs cs os o
  pub row_rest : drop (length rs) p.tables.row_splits ≡ replicate (33 - length rs) 0
  pub column_rest : drop (length cs) p.tables.column_splits ≡ replicate (33 - length cs) 0
  pub owner_rest : drop (length os) p.tables.owners ≡ replicate (1024 - length os) 0
  pub starts : (b : ℕ) → b < p.row_blocks * p.column_blocks → slice_index p.tables.starts b ≡ start (grid_in p) b
  pub start_rest : (b : ℕ) → length os ≤ b → slice_index p.tables.starts b ≡ 0
  pub totals : (q : ℕ) → q < 16 → slice_index p.tables.totals q ≡ total (grid_in p) q

pub record AreParts (letter n high wide : ℕ) (rs cs os : List ℕ) (p : Parts) : Type 0 where
  pub named : order_of letter ≡ Some p.order
  pub limits : Buildable n high wide rs cs os
  pub filled : Filled p.order n high wide rs cs os p
