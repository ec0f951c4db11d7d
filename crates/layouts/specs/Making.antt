-- What is made of parts that are not refused. Assumes nothing.
--     Built o ..          the layout has just these parts and the order o, and zeros past them in its tables
--     Made letter ..      the layout has just these parts and the order that the letter names
-- When parts are refused, `make_refusal`, is passed on from the crate of parts, and so is what it is made of.
use Rattle.std.specs.Prelude.{◌≡◌, ℕ, ◌-◌, ◌<◌, ◌≤◌, List, length, drop, replicate, Some, slice_index}
use Rattle.layouts.specs.declared.layout.Layout.{Layout}
use Rattle.layouts.specs.Layouts.{grid_of}
use Rattle.splits.specs.declared.order.Order.{Order}
use Rattle.splits.specs.Blocks.{grid}
use Rattle.splits.specs.Places.{total}
pub use Rattle.layout_parts.specs.Refusals.{topmost, order_of, make_refusal}

pub record Built (o : Order) (n high wide : ℕ) (rs cs os : List ℕ) (l : Layout) : Type 0 where
  pub boards : l.boards ≡ n
  pub rows : l.rows ≡ high
  pub columns : l.columns ≡ wide
  pub lists : grid_of l ≡ grid rs cs os o
  pub row_rest : drop (length rs) l.tables.row_splits ≡ replicate (33 - length rs) 0
  pub column_rest : drop (length cs) l.tables.column_splits ≡ replicate (33 - length cs) 0
  pub owner_rest : drop (length os) l.tables.owners ≡ replicate (1024 - length os) 0
  pub totals : (p : ℕ) → p < 16 → slice_index l.tables.totals p ≡ total (grid rs cs os o) p
  pub start_rest : (b : ℕ) → length os ≤ b → slice_index l.tables.starts b ≡ 0

abbrev pub Made : ℕ → ℕ → ℕ → ℕ → List ℕ → List ℕ → List ℕ → Layout → Type 0
Made letter n rows columns rs cs os l = (order_of letter ≡ Some l.order) × Built l.order n rows columns rs cs os l
