-- The laws of overlays and packages. Assumes nothing.
--     UnionOnce      two lists of splits have one union
--     Tiled          each element of the target is in exactly one cell, and a cell has elements of the target only
--     InBlocks       all elements of a cell are covered by its one block of the target, and through the operation by its
--                    one block of the source
--     part o i j k   the elements of cell k that are in the package of board i for role j: all or none
--     ByCells        a package's elements are those of the cells whose sender and role are the package's
--     AddsUp         all packages of n boards together have rows × columns elements
--     Worked         of the example's four packages the bytes are 12, 4, 24 and 8
use Rattle.std.specs.Prelude.{◌≡◌, ℕ, ◌*◌, ◌<◌, cond, ◌&&◌, List, [], ◌∷◌, ◌==◌}
use Rattle.overlays.specs.declared.operation.Operation.TheVariants.{Identity}
use Rattle.overlays.specs.Lines.{Union}
use Rattle.overlays.specs.Overlays.{Overlay, Holds, Joined, cells, area, target_block, source_block, role, sender}
use Rattle.overlays.specs.Packages.{sum_below, elements, bytes}
use Rattle.overlays.specs.Turns.{SourceCovers}
use Rattle.splits.specs.declared.order.Order.TheVariants.{RowMajor}
use Rattle.splits.specs.Blocks.{Grid, Covers, grid}

abbrev pub UnionOnce : Type 0
UnionOnce = (size : ℕ) (xs ys zs ws : List ℕ) → Union size xs ys zs → Union size xs ys ws → zs ≡ ws

abbrev pub Tiled : Type 0
Tiled =
    (n rows columns : ℕ) (o : Overlay) → Joined n rows columns o
    → ((r c : ℕ) → r < rows → c < columns → (k : ℕ) × Holds o k r c × ((m : ℕ) → Holds o m r c → m ≡ k))
    × ((k r c : ℕ) → Holds o k r c → (r < rows) × (c < columns))

pub record Lies (o : Overlay) (k r c : ℕ) : Type 0 where
  pub target : Covers o.target (target_block o k) r c
  pub target_only : (b : ℕ) → Covers o.target b r c → b ≡ target_block o k
  pub source : SourceCovers o.operation o.source (source_block o k) r c
  pub source_only : (b : ℕ) → SourceCovers o.operation o.source b r c → b ≡ source_block o k

abbrev pub InBlocks : Type 0
InBlocks = (n rows columns : ℕ) (o : Overlay) → Joined n rows columns o → (k r c : ℕ) → Holds o k r c → Lies o k r c

abbrev pub part : Overlay → ℕ → ℕ → ℕ → ℕ
part o i j k = cond (sender o k == i && role o k == j) (area o k) 0

abbrev pub ByCells : Type 0
ByCells =
    (n rows columns : ℕ) (o : Overlay) → Joined n rows columns o → (i j : ℕ)
    → elements o.operation o.target o.source rows columns i j ≡ sum_below (cells o) (part o i j)

abbrev pub AddsUp : Type 0
AddsUp =
    (n rows columns : ℕ) (o : Overlay) → Joined n rows columns o
    → sum_below n (λ i. sum_below n (λ j. elements o.operation o.target o.source rows columns i j)) ≡ rows * columns

-- the target is 3 by 4, its rows split at 1, with roles 0 and 1; the source's columns are split at 3, with owners 0 and 1
abbrev pub example_target : Grid
example_target = grid (0 ∷ 1 ∷ 3 ∷ []) (0 ∷ 4 ∷ []) (0 ∷ 1 ∷ []) RowMajor

abbrev pub example_source : Grid
example_source = grid (0 ∷ 3 ∷ []) (0 ∷ 3 ∷ 4 ∷ []) (0 ∷ 1 ∷ []) RowMajor

abbrev pub example_bytes : ℕ → ℕ → ℕ
example_bytes i j = bytes (elements Identity example_target example_source 3 4 i j) 1

abbrev pub Worked : Type 0
Worked = (example_bytes 0 0 ≡ 12) × (example_bytes 1 0 ≡ 4) × (example_bytes 0 1 ≡ 24) × (example_bytes 1 1 ≡ 8)
