use Rattle.std.proofs.Common.{◌≡◌, true, pos, ◌+ℤ◌, sym, rules}
use lib.Signed.{lt_z}
use Rattle.std.proofs.lemmas.Bool.{or_left}
use Rattle.assignment_costs.specs.Costs.{cost_at}
use Rattle.assignment.specs.Plans.{role_price, board_price, name_of}
use Rattle.assignment_laws.specs.Judging.{any_below}
use Rattle.assignment_laws.proofs.Verdicts.{any_found}
use Rattle.assignment.proofs.judging.is_unfair.Goals as goal

pub returns-then-costs-role : goal.returns-then-costs-role
returns-then-costs-role c =
    let costs = c.args.costs.now in
    let a = c.args.plan.now in
    let x = c.args.role in
    let y = c.loop-board.board in
    let here : lt_z (pos (cost_at costs x y)) (role_price a x +ℤ board_price a y) ≡ true = search rules in
    sym (or_left (any_below (λ y. lt_z (pos (cost_at costs x y)) (role_price a x +ℤ board_price a y)) costs.boards)
    (lt_z (role_price a x +ℤ board_price a (name_of a x)) (pos (cost_at costs x (name_of a x))))
    (any_found (λ y. lt_z (pos (cost_at costs x y)) (role_price a x +ℤ board_price a y)) y costs.boards here c.loop-board-test.true))
