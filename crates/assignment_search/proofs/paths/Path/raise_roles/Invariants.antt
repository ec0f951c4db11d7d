use Rattle.std.proofs.Common.{◌≡◌, ℕ, ◌+◌, ◌<◌, ◌≤◌}
use Rattle.assignment_search.specs.Paths.{rise_of}
use Rattle.assignment_search.specs.Search.{val}
use Rattle.assignment_search.proofs.paths.Path.raise_roles.Given as goal

abbrev pub invariant-loop-x : goal.invariant-loop-x
invariant-loop-x l =
    ((k : ℕ) → k < l.x → val l.prices.roles k ≡ val l.initial.prices.roles k + rise_of l.matching l.self.tree (val l.self.tree.distance l.self.end) k)
    × ((k : ℕ) → l.x ≤ k → val l.prices.roles k ≡ val l.initial.prices.roles k)
    × (l.prices.discounts ≡ l.initial.prices.discounts)
