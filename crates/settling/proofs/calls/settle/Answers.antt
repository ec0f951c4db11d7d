use Rattle.std.proofs.Common.{ap}
use Rattle.settling.specs.Settling.{Settles}
use Rattle.settling.proofs.Checked.{moved}
use Rattle.settling.proofs.calls.settle.Goals as goal

pub returns : goal.returns
returns g c =
    let made = c.in_ok-pricing.ensures in
    let is = made.2.1 in
    (made.0, made.1, (made.2.0, moved (λ f d w t. Settles f d w t c.settlement.result) (ap g.T.Tariff.cost is.1) is.0 is.2 is.3 c.settlement.ensures.settles))
