-- An assignment is certified where what it proposes is.
use Rattle.assignment.specs.Plans as plans
use Rattle.assignment.specs.Plans.{proposal}
use Rattle.assignment.specs.declared.plan.Assignment.{Assignment}
use Rattle.assignment_costs.specs.Costs.{cost_at}
use Rattle.assignment_costs.specs.declared.costs.Costs.{Costs}
use Rattle.assignment_laws.specs.Judging.{Certified}

pub from_proposal : (c : Costs) (a : Assignment) → Certified (cost_at c) c.boards (proposal a) → plans.Certified c a
from_proposal c a k = record { permutation = k.permutation; within = k.within; feasible = k.feasible; tight = k.tight; bill = k.bill }

pub to_proposal : (c : Costs) (a : Assignment) → plans.Certified c a → Certified (cost_at c) c.boards (proposal a)
to_proposal c a k = record { permutation = k.permutation; within = k.within; feasible = k.feasible; tight = k.tight; bill = k.bill }
