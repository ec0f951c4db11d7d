use Rattle.std.proofs.Common.{ap, ◌∙◌, rules}
use Rattle.std.specs.Option.{option_map}
use Rattle.faults.specs.declared.cause.Cause.TheVariants.{Plan}
use Rattle.assignment_costs.specs.Costs.{cost_at}
use Rattle.assignment.specs.Plans.{proposal}
use Rattle.assignment_laws.specs.Judging.{unfit, unfair}
use Rattle.assignment.proofs.Proposals.{from_proposal}
use Rattle.assignment_laws.proofs.Certificates.{certified_least, fit_within, fit_permute, accepted_certified, accepted}
use Rattle.assignment.proofs.judging.check_plan.Goals as goal

pub check_roles-requires-2 : goal.check_roles-requires-2
check_roles-requires-2 c x l =
    let n = c.args.costs.now.boards in
    let p = proposal c.args.plan.now in
    let fit = (c.in_ok-check_roles.ensures (unfit n p) (λ y b m h. search rules)).1 in
    let named = (fit_permute (cost_at c.args.costs.now) n p fit).below in
    let within = fit_within (cost_at c.args.costs.now) n p fit in
    search (rules, named, within)

pub sum_of-requires : goal.sum_of-requires
sum_of-requires c =
    let n = c.args.costs.now.boards in
    let p = proposal c.args.plan.now in
    let fit = (c.in_ok-check_roles.ensures (unfit n p) (λ y b m h. search rules)).1 in
    (fit_permute (cost_at c.args.costs.now) n p fit).below

pub returns : goal.returns
returns c =
    let cost = cost_at c.args.costs.now in
    let n = c.args.costs.now.boards in
    let p = proposal c.args.plan.now in
    let fit = (c.in_ok-check_roles.ensures (unfit n p) (λ y b m h. search rules)).1 in
    let fair = (c.in_ok-check_roles-2.ensures (unfair cost n p) (λ y b m h. search rules)).1 in
    let bill = c.if-plan-sum_of.false ∙ c.sum_of.ensures in
    let certified = accepted_certified cost n p fit fair bill in
    (ap (option_map Plan) (accepted cost n p fit fair bill), (from_proposal c.args.costs.now c.args.plan.now certified, certified_least cost n p certified))
