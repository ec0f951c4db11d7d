-- When a question to a layout is refused, and what is answered otherwise. Assumes nothing.
--     board_refusal l p    a board that is not below the number of boards
--     element_refusal l r c    an element outside the matrix
--     block_refusal l b    a block outside the layout
--     in_block_refusal l b r c    a block outside the layout, or an element that the block does not cover
--     IsCover l r c v      v is the one block that covers the element
--     IsBlock l b v        v has block b's first row and column, height, width, owner and beginning in its owner's part
--     IsSpot l b r c v     v says where the element lies, and how far on the next ones of its block lie
--     IsPlace l share r c v    v is the element's place where each owner has its own part; if no owner's blocks exceed
--                          the share, it is in that part of the bank
-- The letter of an order, `letter_of`, is passed on from the crate of orders.
use Rattle.std.specs.Prelude.{◌≡◌, ℕ, ◌+◌, ◌*◌, Bool, cond, ◌&&◌, Some, None, Option, nat_le, nat_lt}
use Rattle.faults.specs.declared.cause.Cause.{Cause}
use Rattle.faults.specs.declared.cause.Cause.TheVariants.{Board, Beyond}
use Rattle.layout_parts.specs.declared.block.Block.{Block}
use Rattle.layout_parts.specs.declared.block.Spot.{Spot}
use Rattle.layouts.specs.declared.layout.Layout.{Layout}
use Rattle.layouts.specs.Layouts.{grid_of, blocks_of, owner_of, cover_of, offset_of, place_of}
use Rattle.splits.specs.Blocks.{Covers, top, bottom, left, right, height, width}
use Rattle.splits.specs.Laws.{Shared, Placed}
pub use Rattle.splits.specs.Orders.{letter_of}
use Rattle.splits.specs.Places.{start, row_step, column_step}

abbrev pub board_refusal : Layout → ℕ → Option Cause
board_refusal l p = cond (nat_lt p l.boards) None (Some (Board p))

abbrev pub element_refusal : Layout → ℕ → ℕ → Option Cause
element_refusal l r c = cond (nat_lt r l.rows && nat_lt c l.columns) None (Some (Beyond 0))

abbrev pub block_refusal : Layout → ℕ → Option Cause
block_refusal l b = cond (nat_lt b (blocks_of l)) None (Some (Beyond 0))

-- whether block b covers the element
abbrev pub covers : Layout → ℕ → ℕ → ℕ → Bool
covers l b r c = nat_le (top (grid_of l) b) r && (nat_lt r (bottom (grid_of l) b) && (nat_le (left (grid_of l) b) c && nat_lt c (right (grid_of l) b)))

abbrev pub in_block_refusal : Layout → ℕ → ℕ → ℕ → Option Cause
in_block_refusal l b r c = cond (nat_lt b (blocks_of l) && covers l b r c) None (Some (Beyond 0))

pub record IsCover (l : Layout) (r c v : ℕ) : Type 0 where
  pub number : v ≡ cover_of l r c
  pub covers : Covers (grid_of l) v r c
  pub only : (b : ℕ) → Covers (grid_of l) b r c → b ≡ v

pub record IsBlock (l : Layout) (b : ℕ) (v : Block) : Type 0 where
  pub top : v.top ≡ top (grid_of l) b
  pub left : v.left ≡ left (grid_of l) b
  pub height : v.height ≡ height (grid_of l) b
  pub width : v.width ≡ width (grid_of l) b
  pub owner : v.owner ≡ owner_of l b
  pub start : v.start ≡ start (grid_of l) b

pub record IsSpot (l : Layout) (b r c : ℕ) (v : Spot) : Type 0 where
  pub block : cover_of l r c ≡ b
  pub owner : v.owner ≡ owner_of l b
  pub offset : v.offset ≡ offset_of l r c
  pub row_step : v.row_step ≡ row_step (grid_of l) b
  pub column_step : v.column_step ≡ column_step (grid_of l) b
  pub along_row : (k : ℕ) → Covers (grid_of l) b r (c + k) → offset_of l r (c + k) ≡ v.offset + k * v.row_step
  pub down_column : (k : ℕ) → Covers (grid_of l) b (r + k) c → offset_of l (r + k) c ≡ v.offset + k * v.column_step

pub record IsPlace (l : Layout) (share r c v : ℕ) : Type 0 where
  pub number : v ≡ place_of l share (λ p. p) r c
  pub placed : Shared l.boards (grid_of l) share → Placed l.boards (grid_of l) share (λ p. p) r c
