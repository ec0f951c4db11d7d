use Rattle.std.proofs.Common.{◌≡◌, ℕ, ◌+◌, ◌<◌, length}
use Rattle.assignment_costs.specs.Costs.{cost_at}
use Rattle.assignment_search.specs.Search.{val}
use Rattle.assignment_search.proofs.search.Search.plant.Given as goal

abbrev pub invariant-loop-y : goal.invariant-loop-y
invariant-loop-y l =
    (length l.distance ≡ 16)
    × ((y : ℕ) → y < l.y → val l.distance y + val l.self.prices.roles l.self.placed ≡ cost_at l.self.costs.now l.self.placed y + val l.self.prices.discounts y)
