use Rattle.std.proofs.Common.{true, sym, ap}
use Rattle.std.specs.Option.{option_map}
use Rattle.faults.specs.declared.cause.Cause.TheVariants.{Plan}
use Rattle.assignment_laws.proofs.Verdicts.{first_found}
use Rattle.assignment.proofs.judging.check_roles.Goals as goal

pub returns-then-is_wrong : goal.returns-then-is_wrong
returns-then-is_wrong g c =
    λ t h.
    ap (option_map Plan) (first_found t c.loop-role.role c.args.boards (c.loop-role.invariant t h)
    (sym (h c.loop-role.role true c.loop-role-test.true c.if-is_wrong.ensures))
    c.loop-role-test.true)
