-- What parts that are not refused come to. Assumes nothing.
--     Buildable ..        what no refusal but the letter's comes to
use Rattle.std.specs.Prelude.{ℕ, ◌*◌, ◌≤◌, List}
use Rattle.wrong_lists.specs.Lists.{Legal}
use Rattle.splits.specs.Owners.{owner_rule}
use Rattle.splits.specs.Splits.{split_rule, spans}

-- no part but the letter has a cause of refusal
pub record Buildable (n high wide : ℕ) (rs cs os : List ℕ) : Type 0 where
  pub boards : (1 ≤ n) × (n ≤ 16)
  pub rows : (1 ≤ high) × (high ≤ 1024)
  pub columns : (1 ≤ wide) × (wide ≤ 1024)
  pub row_splits : Legal (split_rule high) rs
  pub column_splits : Legal (split_rule wide) cs
  pub owners : Legal (owner_rule (spans rs * spans cs) n) os
