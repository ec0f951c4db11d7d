use Rattle.std.proofs.Common.{◌≡◌, ℕ, ◌+◌, ◌*◌, ◌^◌, ◌<◌, ◌≤◌, ◌⊎◌, length, get_or}
use Rattle.assignment_costs.proofs.tables.spread.Given as goal

abbrev pub invariant-loop-x : goal.invariant-loop-x
invariant-loop-x l =
    (length l.table ≡ 256) × ((k : ℕ) → get_or l.table k 0 ≤ 2 ^ 44)
    × ((a b : ℕ) → a < l.x → b < l.boards → get_or l.table (a * 16 + b) 0 ≡ get_or l.costs (a * l.boards + b) 0)
    × ((a b : ℕ) → b < 16 → (l.boards ≤ a) ⊎ (l.boards ≤ b) → get_or l.table (a * 16 + b) 0 ≡ 0)

abbrev pub invariant-loop-y : goal.invariant-loop-y
invariant-loop-y l =
    (length l.table ≡ 256) × ((k : ℕ) → get_or l.table k 0 ≤ 2 ^ 44)
    × ((a b : ℕ) → a < l.x → b < l.boards → get_or l.table (a * 16 + b) 0 ≡ get_or l.costs (a * l.boards + b) 0)
    × ((b : ℕ) → b < l.y → get_or l.table (l.x * 16 + b) 0 ≡ get_or l.costs (l.x * l.boards + b) 0)
    × ((a b : ℕ) → b < 16 → (l.boards ≤ a) ⊎ (l.boards ≤ b) → get_or l.table (a * 16 + b) 0 ≡ 0)
