-- Tables of costs, for 1 to 16 boards, each cost at most 2 ^ 44. Assumes nothing.
--     cost_at c x y          what role x costs on board y
--     row_rule n             what may stand in a list of the costs of n boards, row by row
--     count_refusal n        why there is no table of n boards
--     board_refusal c x      why table c has no role or board x
--     place_refusal c x y    why table c has no cost of role x on board y
--     write_refusal c x y v  why v cannot be written there
--     rows_refusal n costs   why the list gives no table of n boards
--     WrongRows             the first forbidden index of a list of costs is where no right list agrees with it any more
--     Zeroed, Rowed, Written what a table is after the call
use Rattle.std.specs.Prelude.{◌≡◌, ℕ, ◌+◌, ◌*◌, ◌^◌, ◌<◌, ◌≤◌, cond, ◌&&◌, ◌||◌, ◌⊎◌, List, length, Some, None, Option, ◌==◌, ◌≢◌, nat_le, nat_lt, slice_index}
use Rattle.std.specs.Option.{option_map}
use Rattle.wrong_lists.specs.Lists.{Rule, first_wrong, WrongAt}
use Rattle.faults.specs.declared.cause.Cause.{Cause}
use Rattle.faults.specs.declared.cause.Cause.TheVariants.{Board, Beyond}
use Rattle.assignment_costs.specs.declared.costs.Costs.{Costs}

abbrev pub cost_at : Costs → ℕ → ℕ → ℕ
cost_at c x y = slice_index c.table (x * 16 + y)

abbrev pub count_refusal : ℕ → Option Cause
count_refusal n = cond (n == 0 || nat_lt 16 n) (Some (Board n)) None

-- n * n costs, each within its limit
abbrev pub row_rule : ℕ → Rule
row_rule n k before None = k == n * n
row_rule n k before (Some v) = nat_lt k (n * n) && nat_le v (2 ^ 44)

abbrev pub rows_refusal : ℕ → List ℕ → Option Cause
rows_refusal n costs = cond (n == 0 || nat_lt 16 n) (Some (Board n)) (option_map Beyond (first_wrong (row_rule n) costs))

abbrev pub board_refusal : Costs → ℕ → Option Cause
board_refusal c x = cond (nat_le c.boards x) (Some (Board x)) None

abbrev pub place_refusal : Costs → ℕ → ℕ → Option Cause
place_refusal c x y = cond (nat_le c.boards x) (Some (Board x)) (cond (nat_le c.boards y) (Some (Board y)) None)

abbrev pub write_refusal : Costs → ℕ → ℕ → ℕ → Option Cause
write_refusal c x y v =
    cond (nat_le c.boards x) (Some (Board x)) (cond (nat_le c.boards y) (Some (Board y)) (cond (nat_lt (2 ^ 44) v) (Some (Beyond 0)) None))

pub record Zeroed (n : ℕ) (c : Costs) : Type 0 where
  pub count : c.boards ≡ n
  pub entries : (x y : ℕ) → cost_at c x y ≡ 0

-- the rows of n costs each, at multiples of 16, and 0 beside them
pub record Spread (n : ℕ) (costs table : List ℕ) : Type 0 where
  pub sized : length table ≡ 256
  pub entries : (x y : ℕ) → x < n → y < n → slice_index table (x * 16 + y) ≡ slice_index costs (x * n + y)
  pub capped : (k : ℕ) → slice_index table k ≤ 2 ^ 44
  pub past : (x y : ℕ) → y < 16 → (n ≤ x) ⊎ (n ≤ y) → slice_index table (x * 16 + y) ≡ 0

pub record Rowed (n : ℕ) (costs : List ℕ) (c : Costs) : Type 0 where
  pub count : c.boards ≡ n
  pub entries : (x y : ℕ) → x < n → y < n → cost_at c x y ≡ slice_index costs (x * n + y)
  pub past : (x y : ℕ) → y < 16 → (n ≤ x) ⊎ (n ≤ y) → cost_at c x y ≡ 0

pub record Written (c : Costs) (x y v : ℕ) (d : Costs) : Type 0 where
  pub count : d.boards ≡ c.boards
  pub here : cost_at d x y ≡ v
  pub others : (a b : ℕ) → b < 16 → (a ≡ x → b ≢ y) → cost_at d a b ≡ cost_at c a b

abbrev pub WrongRows : Type 0
WrongRows = (n : ℕ) (costs : List ℕ) (i : ℕ) → first_wrong (row_rule n) costs ≡ Some i → WrongAt (row_rule n) costs i
