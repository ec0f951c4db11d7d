use Rattle.std.proofs.Common.{◌≡◌, ℕ, ◌<◌, ◌≤◌, length, get_or, pos, neg_ℤ}
use Rattle.assignment_search.specs.Search.{val, mate}
use Rattle.assignment.proofs.solving.report.Given as goal

abbrev pub invariant-loop-x : goal.invariant-loop-x
invariant-loop-x l =
    (length l.naming ≡ 16) × (length l.roles ≡ 16) × (length l.boards ≡ 16)
    × ((k : ℕ) → k < l.x → (val l.naming k ≡ mate l.found.matching.naming k) × (get_or l.roles k (pos 0) ≡ pos (val l.found.prices.roles k)) × (get_or l.boards k (pos 0) ≡ neg_ℤ (pos (val l.found.prices.discounts k))))
    × ((k : ℕ) → l.x ≤ k → (val l.naming k ≡ 0) × (get_or l.roles k (pos 0) ≡ pos 0) × (get_or l.boards k (pos 0) ≡ pos 0))
