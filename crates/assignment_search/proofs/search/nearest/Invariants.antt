use Rattle.std.proofs.Common.{◌≡◌, ℕ, ◌-◌, ◌^◌, ◌<◌, ◌≤◌, ◌⊎◌}
use Rattle.assignment_search.specs.Search.{val, rank_of}
use Rattle.assignment_search.proofs.search.nearest.Given as goal

abbrev pub invariant-loop-y : goal.invariant-loop-y
invariant-loop-y l =
    ((l.least ≡ 2 ^ 64 - 1) × ((y : ℕ) → y < l.y → 0 < rank_of l.tree y))
    ⊎ ((l.next < l.y) × (rank_of l.tree l.next ≡ 0) × (l.least ≡ val l.tree.distance l.next)
    × ((y : ℕ) → y < l.y → rank_of l.tree y ≡ 0 → l.least ≤ val l.tree.distance y))
