use Rattle.std.proofs.Common.{arith, rules}
use Rattle.assignment_laws.proofs.Certificates.{certified_least}
use Rattle.settling.specs.Prices.{cost_of}
use Rattle.settling.specs.Records.{proposed}
use Rattle.settling.proofs.Certified.{bill_summed}
use Rattle.settling.proofs.pricing.Pricing.settlement.Goals as goal

pub invariant_of-result-clause-below : goal.invariant_of-result-clause-below
invariant_of-result-clause-below g c = λ x l. omega (arith, c.requires.certified.permutation.below x (omega arith))

pub invariant_of-result-clause-apart : goal.invariant_of-result-clause-apart
invariant_of-result-clause-apart g c = λ x y h. c.requires.certified.permutation.apart x y (omega (arith, h.0)) (omega (arith, h.1)) h.2

pub invariant_of-result-clause-summed : goal.invariant_of-result-clause-summed
invariant_of-result-clause-summed g c =
    let p = c.args.self.now in
    bill_summed (g.T.Tariff.cost p.tariff.now) p.drawing.now p.words p.transformed c.args.plan c.prices_under-prices.result c.requires.plan c.requires.certified
    c.prices_under-prices.ensures.items

pub returns-clause-settles : goal.returns-clause-settles
returns-clause-settles g c =
    let p = c.args.self.now in
    let d = p.drawing.now in
    record {
      boards = search rules;
      certified = search rules;
      least = certified_least (cost_of (g.T.Tariff.cost p.tariff.now) d p.words p.transformed) d.target.boards (proposed c.args.plan) c.requires.certified;
      prices = c.prices_under-prices.ensures.items;
      past = c.prices_under-prices.ensures.past;
      summed = search rules;
    }
