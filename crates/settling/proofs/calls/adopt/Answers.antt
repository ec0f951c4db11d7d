use Rattle.std.proofs.Common.{◌≡◌, None, ap, ◌∙◌, rules}
use Rattle.settling.specs.Settling.{Settles, plan_refusal}
use Rattle.settling.proofs.Checked.{adopt_same, moved}
use Rattle.settling.proofs.calls.adopt.Goals as goal

pub returns-in_err-map_err : goal.returns-in_err-map_err
returns-in_err-map_err g c =
    let made = c.in_ok-pricing.ensures in
    let is = made.2.1 in
    let same = adopt_same (g.T.Tariff.boards c.args.tariff.now) c.args.plan.now (ap g.T.Tariff.cost is.1) is.0 is.2 is.3 made.2.0 in
    (made.0, made.1, rw same (search rules))

pub returns : goal.returns
returns g c =
    let made = c.in_ok-pricing.ensures in
    let is = made.2.1 in
    let p = c.in_ok-pricing.pricing in
    let same = adopt_same (g.T.Tariff.boards c.args.tariff.now) c.args.plan.now (ap g.T.Tariff.cost is.1) is.0 is.2 is.3 made.2.0 in
    let passed : plan_refusal (g.T.Tariff.cost p.tariff.now) p.drawing.now p.words p.transformed c.args.plan.now ≡ None = search rules in
    (made.0, made.1, (same ∙ passed, (c.settlement.ensures.plan, moved (λ f d w t. Settles f d w t c.settlement.result) (ap g.T.Tariff.cost is.1) is.0 is.2 is.3 c.settlement.ensures.settles)))
