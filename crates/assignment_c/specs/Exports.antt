-- What the export for C answers. Assumes nothing.
--     LeastBill n costs r    r is the largest number of 64 bits where the list makes no table of n boards;
--                            else no naming of the list's table costs less than r, and its plan has the bill r
use Rattle.std.specs.Prelude.{◌≡◌, ℕ, List, Some, None}
use Rattle.faults.specs.declared.cause.Cause.{Cause}
use Rattle.assignment_costs.specs.Costs.{rows_refusal, Rowed}
use Rattle.assignment_costs.specs.declared.costs.Costs.{Costs}
use Rattle.assignment.specs.Plans.{Solved}
use Rattle.assignment.specs.declared.plan.Assignment.{Assignment}

pub record LeastBill (n : ℕ) (costs : List ℕ) (r : ℕ) : Type 0 where
  pub refused : (cause : Cause) → rows_refusal n costs ≡ Some cause → r ≡ 18446744073709551615
  pub least : rows_refusal n costs ≡ None → (c : Costs) × (a : Assignment) × Rowed n costs c × Solved c a × (r ≡ a.bill)
