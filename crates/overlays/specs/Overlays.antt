-- Two grids over each other, cut into cells. Assumes nothing.
--     Overlay               the operation, the target's and the source's grid, and the lines between the cells
--     down o, across o      the number of cells from top to bottom, and from left to right; cells o, in all, row by row
--     top o k, bottom o k   the first row of cell k, and the one after its last; left o k and right o k, of its columns
--     area o k              how many elements it has
--     target_block o k      the target's block that covers its first element; source_block o k, the source's
--     role o k              the owner of that block of the target; sender o k, of that block of the source
--     Holds o k r c         cell k has the target's element of row r and column c
--     Joined n rows columns o    both grids are sound, the source's sides being exchanged as the operation says, and the
--                           lines are the unions of both grids' splits
use Rattle.std.specs.Prelude.{ℕ, ◌+◌, ◌-◌, ◌*◌, ◌/◌, ◌%◌, ◌<◌, ◌≤◌, List, slice_index}
use Rattle.overlays.specs.declared.operation.Operation.{Operation}
use Rattle.overlays.specs.Lines.{Union}
use Rattle.overlays.specs.Turns.{turned, source_cover}
use Rattle.splits.specs.Blocks.{Grid, Sound, cover, owner}
use Rattle.splits.specs.Splits.{spans}

pub record Overlay : Type 0 where
  pub operation : Operation
  pub target : Grid
  pub source : Grid
  pub row_lines : List ℕ
  pub column_lines : List ℕ

abbrev pub overlay : Operation → Grid → Grid → List ℕ → List ℕ → Overlay
overlay op a b zs ws = record { operation = op; target = a; source = b; row_lines = zs; column_lines = ws }

abbrev pub down : Overlay → ℕ
down o = spans o.row_lines

abbrev pub across : Overlay → ℕ
across o = spans o.column_lines

abbrev pub cells : Overlay → ℕ
cells o = down o * across o

abbrev pub top : Overlay → ℕ → ℕ
top o k = slice_index o.row_lines (k / across o)

abbrev pub bottom : Overlay → ℕ → ℕ
bottom o k = slice_index o.row_lines (k / across o + 1)

abbrev pub left : Overlay → ℕ → ℕ
left o k = slice_index o.column_lines (k % across o)

abbrev pub right : Overlay → ℕ → ℕ
right o k = slice_index o.column_lines (k % across o + 1)

abbrev pub area : Overlay → ℕ → ℕ
area o k = (bottom o k - top o k) * (right o k - left o k)

abbrev pub target_block : Overlay → ℕ → ℕ
target_block o k = cover o.target (top o k) (left o k)

abbrev pub source_block : Overlay → ℕ → ℕ
source_block o k = source_cover o.operation o.source (top o k) (left o k)

abbrev pub role : Overlay → ℕ → ℕ
role o k = owner o.target (target_block o k)

abbrev pub sender : Overlay → ℕ → ℕ
sender o k = owner o.source (source_block o k)

pub record Holds (o : Overlay) (k r c : ℕ) : Type 0 where
  pub one : k < cells o
  pub below_top : top o k ≤ r
  pub above_bottom : r < bottom o k
  pub past_left : left o k ≤ c
  pub before_right : c < right o k

pub record Joined (n rows columns : ℕ) (o : Overlay) : Type 0 where
  pub target : Sound n rows columns o.target
  pub source : Sound n (turned o.operation rows columns) (turned o.operation columns rows) o.source
  pub row_side : Union rows o.target.row_cuts (turned o.operation o.source.row_cuts o.source.column_cuts) o.row_lines
  pub column_side : Union columns o.target.column_cuts (turned o.operation o.source.column_cuts o.source.row_cuts) o.column_lines
