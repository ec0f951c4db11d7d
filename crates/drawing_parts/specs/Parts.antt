-- What the parts of a drawing have to do with each other. Assumes nothing.
--     places l                 where the lines of l stand
--     target_blocks l          the blocks of the target behind them; source_blocks l, those of the source
--     used l                   where the first line of l stands to where its last does
--     Counted l                l has 1 to 63 spans, and its table its full length
--     Named xs table l         the table has the block of xs that covers each span's first index
--     Ruled size xs ys l       the used part of l is the union of the splits xs and ys of a side of this size, and its tables
--                              name the block of xs and the block of ys that each span lies in
--     Fits op a b              the source b has the boards, rows and columns that the target a asks for under the operation
--     Drawable op a b rs cs    b fits a, and rs and cs rule the target's rows and columns
--     over op a b rs cs        the overlay of these parts
--     elements_of op a b i j   the elements that board i of b sends for role j of a
--     WithinShare l share      the share is one, and no owner's blocks exceed it
use Rattle.std.specs.Prelude.{◌≡◌, ℕ, ◌+◌, ◌<◌, ◌≤◌, List, length, map, take, slice_index}
use Rattle.drawing_parts.specs.declared.lines.Lines.{Lines}
use Rattle.layouts.specs.declared.layout.Layout.{Layout}
use Rattle.layouts.specs.Layouts.{grid_of, row_cuts, column_cuts, total_of}
use Rattle.overlays.specs.declared.operation.Operation.{Operation}
use Rattle.overlays.specs.Lines.{Union}
use Rattle.overlays.specs.Overlays.{Overlay, overlay}
use Rattle.overlays.specs.Packages.{elements}
use Rattle.overlays.specs.Turns.{turned}
use Rattle.splits.specs.Splits.{covering}

abbrev pub places : Lines → List ℕ
places l = map (λ x. x.at) l.lines

abbrev pub target_blocks : Lines → List ℕ
target_blocks l = map (λ x. x.target) l.lines

abbrev pub source_blocks : Lines → List ℕ
source_blocks l = map (λ x. x.source) l.lines

abbrev pub used : Lines → List ℕ
used l = take (l.spans + 1) (places l)

abbrev pub Counted : Lines → Type 0
Counted l = (1 ≤ l.spans) × (l.spans ≤ 63) × (length l.lines ≡ 64)

abbrev pub Named : List ℕ → List ℕ → Lines → Type 0
Named xs table l = (k : ℕ) → k < l.spans → slice_index table k ≡ covering xs (slice_index (places l) k)

pub record Ruled (size : ℕ) (xs ys : List ℕ) (l : Lines) : Type 0 where
  pub counted : Counted l
  pub union : Union size xs ys (used l)
  pub target : Named xs (target_blocks l) l
  pub source : Named ys (source_blocks l) l

-- the source's splits along the target's rows, and along its columns
abbrev pub source_rows : Operation → Layout → List ℕ
source_rows op b = turned op (row_cuts b) (column_cuts b)

abbrev pub source_columns : Operation → Layout → List ℕ
source_columns op b = turned op (column_cuts b) (row_cuts b)

abbrev pub Fits : Operation → Layout → Layout → Type 0
Fits op a b = (b.rows ≡ turned op a.rows a.columns) × (b.columns ≡ turned op a.columns a.rows) × (b.boards ≡ a.boards)

pub record Drawable (op : Operation) (a b : Layout) (rs cs : Lines) : Type 0 where
  pub fits : Fits op a b
  pub row_side : Ruled a.rows (row_cuts a) (source_rows op b) rs
  pub column_side : Ruled a.columns (column_cuts a) (source_columns op b) cs

abbrev pub over : Operation → Layout → Layout → Lines → Lines → Overlay
over op a b rs cs = overlay op (grid_of a) (grid_of b) (used rs) (used cs)

abbrev pub elements_of : Operation → Layout → Layout → ℕ → ℕ → ℕ
elements_of op a b i j = elements op (grid_of a) (grid_of b) a.rows a.columns i j

abbrev pub WithinShare : Layout → ℕ → Type 0
WithinShare l share = (1 ≤ share) × (share ≤ 1048576) × ((p : ℕ) → p < l.boards → total_of l p ≤ share)
