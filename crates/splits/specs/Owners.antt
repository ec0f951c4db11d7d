-- Tables of owners, one for each block row by row. Assumes nothing.
--     owner_rule blocks boards    what may stand in the table for so many blocks: a board for each block, and then the end
--     Owned blocks boards xs      what the rule comes to: as many entries as blocks, each below the number of boards
use Rattle.std.specs.Prelude.{◌≡◌, ℕ, ◌<◌, Bool, ◌&&◌, List, length, Some, None, Option, ◌==◌, nat_lt, slice_index}

abbrev pub owner_rule : ℕ → ℕ → ℕ → Option ℕ → Option ℕ → Bool
owner_rule blocks boards k before None = k == blocks
owner_rule blocks boards k before (Some x) = nat_lt k blocks && nat_lt x boards

pub record Owned (blocks boards : ℕ) (xs : List ℕ) : Type 0 where
  pub long : length xs ≡ blocks
  pub below : (b : ℕ) → b < blocks → slice_index xs b < boards
