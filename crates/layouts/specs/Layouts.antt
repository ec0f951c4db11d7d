-- What a layout says of its matrix. Assumes nothing.
--     grid_of l           the splits, owners and order of layout l
--     row_cuts l          its row splits, as a list; column_cuts l, its column splits
--     blocks_of l         its number of blocks
--     owner_of l b        the board that owns block b
--     cover_of l r c      the block that covers the element of row r and column c
--     offset_of l r c     how far from the beginning of its owner's part the element lies
--     total_of l p        how many elements board p's blocks have in all
--     place_of l share σ r c    the element's place in a bank of parts of `share`, role j's blocks being in board σ j's part
--     LawsOf l           the laws of blocks and places, of this layout: each element is covered by exactly one block;
--                         where no owner's blocks exceed the share, each element's place under any naming is in the
--                         bank and in the part of the board that its owner is named, and no two places are alike
use Rattle.std.specs.Prelude.{◌≡◌, ℕ, ◌<◌, List}
use Rattle.layouts.specs.declared.layout.Layout.{Layout}
use Rattle.layout_parts.specs.Tables.{table_grid}
use Rattle.splits.specs.Blocks.{Grid, Sound, Covers, blocks, owner, cover}
use Rattle.splits.specs.Laws.{Naming, Shared, Placed}
use Rattle.splits.specs.Places.{offset, total, place}

abbrev pub grid_of : Layout → Grid
grid_of l = table_grid l.row_blocks l.column_blocks l.tables.row_splits l.tables.column_splits l.tables.owners l.order

abbrev pub row_cuts : Layout → List ℕ
row_cuts l = (grid_of l).row_cuts

abbrev pub column_cuts : Layout → List ℕ
column_cuts l = (grid_of l).column_cuts

abbrev pub blocks_of : Layout → ℕ
blocks_of l = blocks (grid_of l)

abbrev pub owner_of : Layout → ℕ → ℕ
owner_of l b = owner (grid_of l) b

abbrev pub cover_of : Layout → ℕ → ℕ → ℕ
cover_of l r c = cover (grid_of l) r c

abbrev pub offset_of : Layout → ℕ → ℕ → ℕ
offset_of l r c = offset (grid_of l) r c

abbrev pub total_of : Layout → ℕ → ℕ
total_of l p = total (grid_of l) p

abbrev pub place_of : Layout → ℕ → (ℕ → ℕ) → ℕ → ℕ → ℕ
place_of l share σ r c = place (grid_of l) share σ r c

pub record LawsOf (l : Layout) : Type 0 where
  pub sound : Sound l.boards l.rows l.columns (grid_of l)
  pub once : (r c : ℕ) → r < l.rows → c < l.columns
      → Covers (grid_of l) (cover_of l r c) r c × ((b : ℕ) → Covers (grid_of l) b r c → b ≡ cover_of l r c)
  pub placed : (share : ℕ) → Shared l.boards (grid_of l) share → (σ : ℕ → ℕ) → Naming l.boards σ
      → (r c : ℕ) → r < l.rows → c < l.columns → Placed l.boards (grid_of l) share σ r c
  pub apart : (share : ℕ) → Shared l.boards (grid_of l) share → (σ : ℕ → ℕ) → Naming l.boards σ
      → (r c q d : ℕ) → r < l.rows → c < l.columns → q < l.rows → d < l.columns
      → place_of l share σ r c ≡ place_of l share σ q d → (r ≡ q) × (c ≡ d)
