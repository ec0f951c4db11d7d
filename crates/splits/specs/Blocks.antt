-- A matrix cut into blocks, each with an owner. Assumes nothing.
--     Grid                row splits, column splits, an owner for each block row by row, and the order inside a block
--     grid rs cs os o     the grid of these row splits, column splits, owners and order
--     row_blocks g        the number of blocks from top to bottom; column_blocks g, from left to right; blocks g, in all
--     row_of g b          in which row of blocks block b stands; column_of g b, in which column
--     top g b, bottom g b the first row of block b, and the one after its last; left g b and right g b, of its columns
--     height g b, width g b
--     owner g b           the board that owns block b
--     Covers g b r c      block b covers the element of row r and column c
--     cover g r c         the block that covers it
--     Sound n rows columns g    the splits cut a matrix of this size, and each block's owner is one of n boards
use Rattle.std.specs.Prelude.{ℕ, ◌+◌, ◌-◌, ◌*◌, ◌/◌, ◌%◌, ◌<◌, ◌≤◌, List, slice_index}
use Rattle.splits.specs.declared.order.Order.{Order}
use Rattle.splits.specs.Owners.{Owned}
use Rattle.splits.specs.Splits.{Cuts, spans, covering}

pub record Grid : Type 0 where
  pub row_cuts : List ℕ
  pub column_cuts : List ℕ
  pub owners : List ℕ
  pub order : Order

abbrev pub grid : List ℕ → List ℕ → List ℕ → Order → Grid
grid rs cs os o = record { row_cuts = rs; column_cuts = cs; owners = os; order = o }

abbrev pub row_blocks : Grid → ℕ
row_blocks g = spans g.row_cuts

abbrev pub column_blocks : Grid → ℕ
column_blocks g = spans g.column_cuts

abbrev pub blocks : Grid → ℕ
blocks g = row_blocks g * column_blocks g

abbrev pub row_of : Grid → ℕ → ℕ
row_of g b = b / column_blocks g

abbrev pub column_of : Grid → ℕ → ℕ
column_of g b = b % column_blocks g

abbrev pub top : Grid → ℕ → ℕ
top g b = slice_index g.row_cuts (row_of g b)

abbrev pub bottom : Grid → ℕ → ℕ
bottom g b = slice_index g.row_cuts (row_of g b + 1)

abbrev pub left : Grid → ℕ → ℕ
left g b = slice_index g.column_cuts (column_of g b)

abbrev pub right : Grid → ℕ → ℕ
right g b = slice_index g.column_cuts (column_of g b + 1)

abbrev pub height : Grid → ℕ → ℕ
height g b = bottom g b - top g b

abbrev pub width : Grid → ℕ → ℕ
width g b = right g b - left g b

abbrev pub owner : Grid → ℕ → ℕ
owner g b = slice_index g.owners b

pub record Covers (g : Grid) (b r c : ℕ) : Type 0 where
  pub one : b < blocks g
  pub below_top : top g b ≤ r
  pub above_bottom : r < bottom g b
  pub past_left : left g b ≤ c
  pub before_right : c < right g b

abbrev pub cover : Grid → ℕ → ℕ → ℕ
cover g r c = covering g.row_cuts r * column_blocks g + covering g.column_cuts c

pub record Sound (n rows columns : ℕ) (g : Grid) : Type 0 where
  pub row_side : Cuts rows g.row_cuts
  pub column_side : Cuts columns g.column_cuts
  pub owned : Owned (blocks g) n g.owners
