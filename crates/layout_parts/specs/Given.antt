-- What a layout is to be made of, once it is checked. Assumes nothing.
--     checked_grid c      the grid of its splits, its owners and the order that its letter names
use Rattle.layout_parts.specs.declared.given.Checked.{Checked}
use Rattle.splits.specs.Blocks.{Grid, grid}

abbrev pub checked_grid : Checked → Grid
checked_grid c = grid c.given.row_splits.now c.given.column_splits.now c.given.owners.now c.order
