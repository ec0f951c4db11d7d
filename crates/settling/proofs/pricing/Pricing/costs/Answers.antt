use Rattle.std.proofs.Common.{◌≡◌, ℕ, ◌<◌, get_or, sym, ap, ◌∙◌, subst, inl, inr, arith}
use Rattle.std.proofs.lemmas.Bool.{cases_eq}
use Rattle.assignment_costs.specs.Costs.{cost_at}
use Rattle.assignment_laws.proofs.Totals.{total_same}
use Rattle.assignment_laws.specs.Namings.{total}
use Rattle.settling.specs.Prices.{asked, cost_of, question}
use Rattle.settling.proofs.pricing.Pricing.costs.Goals as goal

pub loop-role-preserved : goal.loop-role-preserved
loop-role-preserved g c =
    let p = c.args.self.now in
    let d = p.drawing.now in
    let price = g.T.Tariff.cost p.tariff.now in
    let w = p.words in
    let t = p.transformed in
    let role = c.loop-role.role in
    let n = d.target.boards in
    let before = c.loop-role.costs in
    let after = c.fill_row.new.costs in
    let packages = c.packages-packages.result in
    let filled = c.fill_row.ensures in
    let kept : before.boards ≡ n = c.loop-role.invariant.0 in
    let here : (y : ℕ) → y < n → cost_at after role y ≡ cost_of price d w t role y =
    λ y l. filled.here y (omega (arith, kept)) ∙ ap (total (λ i. price (asked i y (get_or packages.bytes i 0) t))) kept
    ∙ total_same (λ i. price (asked i y (get_or packages.bytes i 0) t)) (λ i. price (question d w t i role y)) n
    (λ i m. ap (λ z. price (asked i y z t)) (c.packages-packages.ensures i m)) in (
      filled.count ∙ kept,
      λ x y l m.
          elim (cases_eq x role) [
            | inl e ↦ subst (λ z. cost_at after z y ≡ cost_of price d w t z y) (sym e) (here y m)
            | inr o ↦ filled.others x y (omega (arith, d.target.counted.1)) o ∙ c.loop-role.invariant.1 x y (omega arith) m
          ],
      λ x y l s.
          elim (cases_eq x role) [
            | inl e ↦
                elim s [
                  | inl h ↦ absurd (omega (arith, e, h))
                  | inr h ↦
                      (subst (λ z. cost_at after z y ≡ 0) (sym e)
                      (filled.later y l (omega (arith, kept, h)) ∙ c.loop-role.invariant.2 role y l (inr h)))
                ]
            | inr o ↦ filled.others x y l o ∙ c.loop-role.invariant.2 x y l (elim s [ inl h ↦ inl (omega (arith, h)) | inr h ↦ inr h ])
          ],
    )
