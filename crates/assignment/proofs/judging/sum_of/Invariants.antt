use Rattle.std.proofs.Common.{◌≡◌, ◌*◌, ◌^◌, ◌≤◌}
use Rattle.assignment_costs.specs.Costs.{cost_at}
use Rattle.assignment_search.specs.Search.{val}
use Rattle.assignment_laws.specs.Namings.{bill_of}
use Rattle.assignment.proofs.judging.sum_of.Given as goal

abbrev pub invariant-loop-x : goal.invariant-loop-x
invariant-loop-x l = (l.sum ≡ bill_of (cost_at l.costs) l.x (val l.naming)) × (l.sum ≤ l.x * 2 ^ 44)
