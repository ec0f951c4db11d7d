use Rattle.std.proofs.Common.{◌≡◌, ℕ, ◌+◌, ◌<◌, ◌≤◌}
use Rattle.assignment_search.specs.Paths.{gap_of}
use Rattle.assignment_search.specs.Search.{val}
use Rattle.assignment_search.proofs.paths.Path.raise_boards.Given as goal

abbrev pub invariant-loop-y : goal.invariant-loop-y
invariant-loop-y l =
    ((k : ℕ) → k < l.y → val l.prices.discounts k ≡ val l.initial.prices.discounts k + gap_of l.self.tree (val l.self.tree.distance l.self.end) k)
    × ((k : ℕ) → l.y ≤ k → val l.prices.discounts k ≡ val l.initial.prices.discounts k)
    × (l.prices.roles ≡ l.initial.prices.roles)
