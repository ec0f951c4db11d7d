use Rattle.std.proofs.Common.{◌≡◌, ℕ, ◌+◌, ◌^◌, ◌<◌, None, slice_index, ◌∙◌, arith, rules}
use Rattle.std.proofs.lemmas.Bool.Decides.{nat_tests}
use Rattle.std.proofs.lemmas.Iterator.{YieldsList-from_map, YieldsList-from_range}
use Rattle.std.proofs.lemmas.Iterator.Adapters.{at_most_from_yields_List, fits_from_length, total_from_yields_List}
use Rattle.std.proofs.lemmas.List.FromFn.{length-range_with_len}
use Rattle.assignment_laws.specs.Namings.{total}
use Rattle.settling.specs.Prices.{asked}
use Rattle.tariffs.specs.Questions.{ask_refusal}
use Rattle.settling.proofs.Sums.{total_listed, total_priced}
use Rattle.settling.proofs.pricing.Pricing.pair_cost.Goals as goal

pub sum-requires-clause-fits : goal.sum-requires-clause-fits
sum-requires-clause-fits g c =
    let d = c.args.self.now.drawing.now in
    let n = d.target.boards in
    fits_from_length _ _ 16 (2 ^ 64)
    (at_most_from_yields_List (YieldsList-from_range 0 n n c.map.ensures.source (omega arith)) (omega (arith, length-range_with_len 0 n, d.target.counted.1)))
    c.map.ensures.closure
    (omega arith)
    (λ x r q k. search rules)

pub returns : goal.returns
returns g c =
    let p = c.args.self.now in
    let d = p.drawing.now in
    let n = d.target.boards in
    let packages = c.args.packages.now in
    let y = c.args.receiver in
    let price : ℕ → ℕ = λ i. g.T.Tariff.cost p.tariff.now (asked i y (slice_index packages.bytes i) p.transformed) in
    let value : c.sum.result ≡ total price n =
    total_from_yields_List (λ a x. a + x) 0 c.sum.result c.sum.ensures.ran
    (YieldsList-from_map _ price (YieldsList-from_range 0 n n c.map.ensures.source (omega arith)) c.map.ensures.closure (λ x r q k. search rules))
    ∙ total_listed price n in
    let asks : (i : ℕ) → i < n → ask_refusal (g.T.Tariff.boards p.tariff.now) (asked i y (slice_index packages.bytes i) p.transformed) ≡ None =
    λ i l. grind (arith, nat_tests, packages.capped i, p.counted, c.requires) in
    record {
      value = value;
      capped = omega (arith, value, total_priced price n (λ i l. (g.T.Tariff.laws p.tariff.now).capped _ (asks i l)), d.target.counted.1);
    }
