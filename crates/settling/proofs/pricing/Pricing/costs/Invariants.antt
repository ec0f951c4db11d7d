-- the roles before this one have their costs
use Rattle.std.proofs.Common.{◌≡◌, ℕ, ◌<◌, ◌≤◌, ◌⊎◌}
use Rattle.assignment_costs.specs.Costs.{cost_at}
use Rattle.settling.specs.Prices.{cost_of}
use Rattle.settling.proofs.pricing.Pricing.costs.Given as goal

abbrev pub invariant-loop-role : goal.invariant-loop-role
invariant-loop-role g l =
    (l.costs.boards ≡ l.boards)
    × ((x y : ℕ) → x < l.role → y < l.boards → cost_at l.costs x y ≡ cost_of (g.T.Tariff.cost l.self.tariff.now) l.self.drawing.now l.self.words l.self.transformed x y)
    × ((x y : ℕ) → y < 16 → (l.role ≤ x) ⊎ (l.boards ≤ y) → cost_at l.costs x y ≡ 0)
