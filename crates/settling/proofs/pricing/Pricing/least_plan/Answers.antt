use Rattle.std.proofs.Common.{sym, arith}
use Rattle.settling.proofs.Certified.{certified_plan}
use Rattle.settling.proofs.pricing.Pricing.least_plan.Goals as goal

pub returns-clause-certified : goal.returns-clause-certified
returns-clause-certified g c =
    let p = c.args.self.now in
    let costed = c.costs-costs.ensures in
    let plan = c.plan_of.ensures in
    certified_plan (g.T.Tariff.cost p.tariff.now) p.drawing.now p.words p.transformed c.costs-costs.result costed c.solve.result c.plan_of.result
    (λ x l. let line = plan.lines x (omega (arith, costed.count)) in (sym line.0, sym line.1, sym line.2))
    (sym plan.bill)
    c.solve.ensures.certified
