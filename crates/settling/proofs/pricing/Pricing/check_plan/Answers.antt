use Rattle.std.proofs.Common.{◌≡◌, ℕ, ◌<◌, None, arith, rules}
use Rattle.assignment.specs.Plans.{judge_refusal}
use Rattle.faults.specs.declared.fault.Call.TheVariants.{Judge}
use Rattle.faults.specs.declared.fault.Layer.TheVariants.{Assignment}
use Rattle.settling.specs.Prices.{count_refusal}
use Rattle.settling.specs.Settling.{plan_refusal}
use Rattle.settling.proofs.Certified.{certified_plan, fits, refused_plan}
use Rattle.settling.proofs.Checked.{judged}
use Rattle.settling.proofs.pricing.Pricing.check_plan.Goals as goal

pub returns : goal.returns
returns g c =
    let p = c.args.self.now in
    let d = p.drawing.now in
    let price = g.T.Tariff.cost p.tariff.now in
    let plan = c.args.plan.now in
    let a = c.assignment_of.result in
    let costs = c.costs.result in
    let costed = c.costs.ensures in
    let counted : count_refusal d plan.boards ≡ None = c.in_ok-check_count.ensures.0 in
    let fit : plan.boards ≡ d.target.boards = fits d plan.boards counted in
    let lines = λ (x : ℕ) (l : x < d.target.boards). c.assignment_of.ensures.lines x (omega (arith, fit)) in
    judged Assignment Judge (plan_refusal price d p.words p.transformed plan) (judge_refusal costs a) c.judge.result c.map_err.result
    (refused_plan price d p.words p.transformed costs costed a plan lines c.assignment_of.ensures.bill counted)
    (λ k. (fit, certified_plan price d p.words p.transformed costs costed a plan lines c.assignment_of.ensures.bill k.0))
    c.judge.ensures
    (search rules)
