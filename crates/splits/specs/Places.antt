-- Where the elements of a grid lie in a bank. Assumes nothing.
-- A block is stored line by line: by rows in row-major order, by columns in column-major order.
-- An owner's blocks lie one after the other in its part of the bank, in the order of their numbers.
--     lines o h w          the number of lines of a block of height h and width w
--     pitch o h w          how many places one line takes; all places are defined through it
--     line o i j, spot o i j    the line of a block's element in row i and column j of the block, and its spot on the line
--     room g b             how many places block b takes
--     inside g b r c       how far from the block's first place the element of row r and column c lies
--     held g p b           how many places the blocks of owner p with numbers below b take
--     total g p            how many places all blocks of owner p take, which is the number of their elements
--     taken g b            how many places all blocks with numbers below b take
--     start g b            how far from the beginning of its owner's part block b begins
--     offset g r c         how far from the beginning of its owner's part an element lies
--     place g share σ r c  its place in a bank of parts of `share` elements, role j's blocks being in board σ j's part
--     row_step g b, column_step g b    from an element of block b to the next one along its row, and down its column
use Rattle.std.specs.Prelude.{ℕ, zero, suc, ◌+◌, ◌-◌, ◌*◌, cond, ◌==◌}
use Rattle.splits.specs.declared.order.Order.{Order}
use Rattle.splits.specs.declared.order.Order.TheVariants.{RowMajor, ColumnMajor}
use Rattle.splits.specs.Blocks.{Grid, blocks, top, left, height, width, owner, cover}

abbrev pub lines : Order → ℕ → ℕ → ℕ
lines RowMajor h w = h
lines ColumnMajor h w = w

abbrev pub pitch : Order → ℕ → ℕ → ℕ
pitch RowMajor h w = w
pitch ColumnMajor h w = h

abbrev pub line : Order → ℕ → ℕ → ℕ
line RowMajor i j = i
line ColumnMajor i j = j

abbrev pub spot : Order → ℕ → ℕ → ℕ
spot RowMajor i j = j
spot ColumnMajor i j = i

abbrev pub room : Grid → ℕ → ℕ
room g b = lines g.order (height g b) (width g b) * pitch g.order (height g b) (width g b)

abbrev pub inside : Grid → ℕ → ℕ → ℕ → ℕ
inside g b r c = line g.order (r - top g b) (c - left g b) * pitch g.order (height g b) (width g b) + spot g.order (r - top g b) (c - left g b)

abbrev pub held : Grid → ℕ → ℕ → ℕ
held g p zero = 0
held g p (suc b) = held g p b + cond (owner g b == p) (room g b) 0

abbrev pub total : Grid → ℕ → ℕ
total g p = held g p (blocks g)

abbrev pub taken : Grid → ℕ → ℕ
taken g zero = 0
taken g (suc b) = taken g b + room g b

abbrev pub start : Grid → ℕ → ℕ
start g b = held g (owner g b) b

abbrev pub offset : Grid → ℕ → ℕ → ℕ
offset g r c = start g (cover g r c) + inside g (cover g r c) r c

abbrev pub place : Grid → ℕ → (ℕ → ℕ) → ℕ → ℕ → ℕ
place g share σ r c = σ (owner g (cover g r c)) * share + offset g r c

abbrev pub step_along_row : Order → ℕ → ℕ
step_along_row RowMajor pitch = 1
step_along_row ColumnMajor pitch = pitch

abbrev pub step_down_column : Order → ℕ → ℕ
step_down_column RowMajor pitch = pitch
step_down_column ColumnMajor pitch = 1

abbrev pub row_step : Grid → ℕ → ℕ
row_step g b = step_along_row g.order (pitch g.order (height g b) (width g b))

abbrev pub column_step : Grid → ℕ → ℕ
column_step g b = step_down_column g.order (pitch g.order (height g b) (width g b))
