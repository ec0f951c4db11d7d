-- the boards before this one have their costs, and the other rows are as they were
use Rattle.std.proofs.Common.{◌≡◌, ℕ, ◌<◌, ◌≤◌, get_or}
use Rattle.assignment_costs.specs.Costs.{cost_at}
use Rattle.assignment_laws.specs.Namings.{total}
use Rattle.settling.specs.Prices.{asked}
use Rattle.settling.proofs.pricing.Pricing.fill_row.Given as goal

abbrev pub invariant-loop-board : goal.invariant-loop-board
invariant-loop-board g l =
    (l.costs.boards ≡ l.initial.costs.boards)
    × ((y : ℕ) → y < l.board → cost_at l.costs l.role y ≡ total (λ i. g.T.Tariff.cost l.self.tariff.now (asked i y (get_or l.packages.bytes i 0) l.self.transformed)) l.initial.costs.boards)
    × ((y : ℕ) → y < 16 → l.board ≤ y → cost_at l.costs l.role y ≡ cost_at l.initial.costs l.role y)
    × ((a b : ℕ) → b < 16 → (a ≡ l.role → ⊥) → cost_at l.costs a b ≡ cost_at l.initial.costs a b)
