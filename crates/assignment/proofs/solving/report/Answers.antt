use Rattle.std.proofs.Common.{ap, arith}
use Rattle.assignment.specs.declared.plan.Assignment.{Assignment}
use Rattle.std.specs.Option.{option_map}
use Rattle.faults.specs.declared.cause.Cause.TheVariants.{Plan}
use Rattle.assignment_costs.specs.Costs.{cost_at}
use Rattle.assignment.specs.Plans.{proposal}
use Rattle.assignment_laws.proofs.Certificates.{certified_least, certified_accepted}
use Rattle.assignment.proofs.Proposals.{to_proposal}
use Rattle.assignment.proofs.Reports.{shown_certified}
use Rattle.assignment.proofs.solving.report.Goals as goal

pub returns : goal.returns
returns c =
    let costs = c.args.costs.now in
    let a : Assignment = record { naming = c.loop-x.naming; roles = c.loop-x.roles; boards = c.loop-x.boards; bill = c.sum_of-bill.result } in
    let certified =
    shown_certified costs c.args.found.now.prices c.args.found.now.matching a c.requires
    (λ k l. c.loop-x.invariant.3 k (omega arith))
    c.sum_of-bill.ensures in
    let cost = cost_at costs in
    let n = costs.boards in
    let proposed = to_proposal costs a certified in
    record { certified = certified; least = certified_least cost n (proposal a) proposed; accepted = ap (option_map Plan) (certified_accepted cost n (proposal a) proposed); past = λ k l. c.loop-x.invariant.4 k (omega arith) }
