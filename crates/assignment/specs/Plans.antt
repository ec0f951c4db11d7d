-- Namings with prices as the solver answers and the judge reads them. Assumes nothing.
--     name_of, role_price, board_price     the entries of an assignment
--     proposal a             what an assignment proposes
--     Certified c a          a names each role a board of its own, its prices are in range and feasible, and tight at
--                            the naming, and its bill is the naming's
--     unpriced a x           the price of role x or of board x is out of range
--     unfair c a x           the prices of role x and of some board are above the cost, or below it at its own board
--     bill_refusal c σ       the first role of a naming that is named wrongly
--     judge_refusal c a      the first role of a that fails, or the count of boards for its bill
--     Solved c a             a is certified, no naming costs less, the judge accepts it, and all entries past the boards are 0
use Rattle.std.specs.Prelude.{◌≡◌, ℕ, ◌≤◌, ◌<◌, Bool, cond, ◌||◌, ◌==◌, ℤ, pos, ◌+ℤ◌, ◌≤ℤ◌, int_lt, None, Some, Option, slice_index, slice_index_or}
use Rattle.std.specs.Option.{option_map}
use Rattle.faults.specs.declared.cause.Cause.{Cause}
use Rattle.faults.specs.declared.cause.Cause.TheVariants.{Plan}
use Rattle.assignment_laws.specs.Judging.{Proposal, Within, first_of, first_below, any_below, misnamed, beyond}
use Rattle.assignment_laws.specs.Namings.{Permutation, Least, bill_of}
use Rattle.assignment_costs.specs.declared.costs.Costs.{Costs}
use Rattle.assignment.specs.declared.plan.Assignment.{Assignment}
use Rattle.assignment_costs.specs.Costs.{cost_at}

abbrev pub name_of : Assignment → ℕ → ℕ
name_of a x = slice_index a.naming x

abbrev pub role_price : Assignment → ℕ → ℤ
role_price a x = slice_index_or a.roles x (pos 0)

abbrev pub board_price : Assignment → ℕ → ℤ
board_price a y = slice_index_or a.boards y (pos 0)

abbrev pub proposal : Assignment → Proposal
proposal a = record { name = name_of a; role_price = role_price a; board_price = board_price a; bill = a.bill }

pub record Certified (c : Costs) (a : Assignment) : Type 0 where
  pub permutation : Permutation c.boards (name_of a)
  pub within : (x : ℕ) → x < c.boards → Within (role_price a x) × Within (board_price a x)
  pub feasible : (x y : ℕ) → x < c.boards → y < c.boards → (role_price a x +ℤ board_price a y) ≤ℤ pos (cost_at c x y)
  pub tight : (x : ℕ) → x < c.boards → role_price a x +ℤ board_price a (name_of a x) ≡ pos (cost_at c x (name_of a x))
  pub bill : a.bill ≡ bill_of (cost_at c) c.boards (name_of a)

abbrev pub unpriced : Assignment → ℕ → Bool
unpriced a x = beyond (role_price a x) || beyond (board_price a x)

abbrev pub unfair : Costs → Assignment → ℕ → Bool
unfair c a x =
    any_below (λ y. int_lt (pos (cost_at c x y)) (role_price a x +ℤ board_price a y)) c.boards
    || int_lt (role_price a x +ℤ board_price a (name_of a x)) (pos (cost_at c x (name_of a x)))

abbrev pub bill_refusal : Costs → (ℕ → ℕ) → Option Cause
bill_refusal c σ = option_map Plan (first_below (misnamed c.boards σ) c.boards)

-- the first role that is wrong by itself, then the first whose prices are wrong, then n for a wrong bill
abbrev pub wrong_role : Costs → Assignment → Option ℕ
wrong_role c a =
    first_of (first_below (λ x. misnamed c.boards (name_of a) x || unpriced a x) c.boards)
    (first_of (first_below (unfair c a) c.boards) (cond (a.bill == bill_of (cost_at c) c.boards (name_of a)) None (Some c.boards)))

abbrev pub judge_refusal : Costs → Assignment → Option Cause
judge_refusal c a = option_map Plan (wrong_role c a)

pub record Solved (c : Costs) (a : Assignment) : Type 0 where
  pub certified : Certified c a
  pub least : Least (cost_at c) c.boards a.bill
  pub accepted : judge_refusal c a ≡ None
  pub past : (k : ℕ) → c.boards ≤ k → (name_of a k ≡ 0) × (role_price a k ≡ pos 0) × (board_price a k ≡ pos 0)
