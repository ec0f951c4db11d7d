use Rattle.std.proofs.Common.{◌≡◌, false, pos, ◌+ℤ◌}
use lib.Signed.{lt_z}
use Rattle.assignment_costs.specs.Costs.{cost_at}
use Rattle.assignment.specs.Plans.{role_price, board_price}
use Rattle.assignment_laws.specs.Judging.{any_below}
use Rattle.assignment.proofs.judging.is_unfair.Given as goal

abbrev pub invariant-loop-board : goal.invariant-loop-board
invariant-loop-board l = any_below (λ y. lt_z (pos (cost_at l.costs l.role y)) (role_price l.plan l.role +ℤ board_price l.plan y)) l.board ≡ false
