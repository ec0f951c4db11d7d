-- the lines before this one say what the tables have
use Rattle.std.proofs.Common.{◌≡◌, ℕ, ◌<◌}
use Rattle.assignment.specs.Plans.{board_price, name_of, role_price}
use Rattle.plans.specs.Plans.{line_of}
use Rattle.settling.proofs.bridge.plan_of.Given as goal

abbrev pub invariant-loop-x : goal.invariant-loop-x
invariant-loop-x l =
    (l.plan.boards ≡ l.count)
    × (l.plan.bill ≡ l.found.bill)
    × ((x : ℕ) → x < l.x → ((line_of l.plan x).board ≡ name_of l.found x) × ((line_of l.plan x).u ≡ role_price l.found x) × ((line_of l.plan x).v ≡ board_price l.found x))
