use Rattle.std.proofs.Common.{◌≡◌, ℕ, ◌+◌, ◌*◌, ◌<◌, ◌≤◌, ◌⊎◌, length, slice_index, sym, refl, ap, ◌∙◌, subst, inl, inr, arith}
use Rattle.std.proofs.lemmas.Bool.{cases_eq}
use Rattle.drawings.specs.Drawings.{package_of}
use Rattle.overlays.specs.Packages.{bytes}
use Rattle.layout_parts.proofs.Tables.{zeros}
use Rattle.plans.specs.Plans.{line_of}
use Rattle.settling.specs.Prices.{asked, question}
use Rattle.settling.specs.Records.{name_in, price_at}
use Rattle.settling.proofs.pricing.Pricing.prices_under.Goals as goal

pub loop-role-init : goal.loop-role-init
loop-role-init g c = (refl, λ i x l h. absurd (omega arith), λ i x l h. zeros 256 (i * 16 + x))

pub loop-role-preserved : goal.loop-role-preserved
loop-role-preserved g c =
    let p = c.args.self.now in
    let d = p.drawing.now in
    let n = d.target.boards in
    let role = c.loop-role.role in
    let after = c.fill_column.new.prices in
    let filled = c.fill_column.ensures in
    let packages = c.packages-packages.result in
    let price = g.T.Tariff.cost p.tariff.now in
    let w = p.words in
    let t = p.transformed in
    let line = c.unwrap-receiver.result in
    let read : line ≡ line_of c.args.plan.now role = grind (arith, c.line.ensures, c.unwrap-receiver.ensures) in
    let asks : ℕ → ℕ → ℕ = λ i x. price (question d w t i x (name_in c.args.plan.now x)) in
    let past : (i x : ℕ) → x < 16 → (n ≤ i) ⊎ (role + 1 ≤ x) → price_at after i x ≡ 0 =
    λ i x l s.
    elim (cases_eq x role) [
      | inl e ↦
          elim s [
            | inl h ↦
                (subst (λ z. price_at after i z ≡ 0) (sym e)
                (filled.later i h ∙ c.loop-role.invariant.2 i role (omega (arith, e, l)) (inl h)))
            | inr h ↦ absurd (omega (arith, e, h))
          ]
      | inr d ↦
          filled.others i x l d
          ∙ c.loop-role.invariant.2 i x l (elim s [ inl h ↦ inl h | inr h ↦ inr (omega (arith, h)) ])
    ] in
    let here : (i : ℕ) → i < n → price_at after i role ≡ asks i role =
    λ i l.
    ◌∙◌ {b = price (asked i line.board (slice_index packages.bytes i) t)} (filled.here i l)
    (ap (λ z. price (asked i line.board z t)) (c.packages-packages.ensures i l)
    ∙ ap (λ z. price (asked i z.board (bytes (package_of d i role) w) t)) read) in
    let sized : length after ≡ 256 = filled.len ∙ c.loop-role.invariant.0 in (
      sized,
      λ i x l m.
          elim (cases_eq x role) [
            | inl e ↦ (subst (λ z. price_at after i z ≡ asks i z) (sym e) (here i l))
            | inr o ↦ filled.others i x (omega (arith, d.target.counted.1)) o ∙ c.loop-role.invariant.1 i x l (omega arith)
          ],
      past,
    )
