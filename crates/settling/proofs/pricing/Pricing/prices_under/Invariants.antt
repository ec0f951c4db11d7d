-- the packages for the roles before this one have their prices
use Rattle.std.proofs.Common.{◌≡◌, ℕ, ◌<◌, ◌≤◌, ◌⊎◌, length}
use Rattle.settling.specs.Prices.{question}
use Rattle.settling.specs.Records.{name_in, price_at}
use Rattle.settling.proofs.pricing.Pricing.prices_under.Given as goal

abbrev pub invariant-loop-role : goal.invariant-loop-role
invariant-loop-role g l =
    (length l.prices ≡ 256)
    × ((i x : ℕ) → i < l.self.drawing.now.target.boards → x < l.role
    → price_at l.prices i x ≡ g.T.Tariff.cost l.self.tariff.now (question l.self.drawing.now l.self.words l.self.transformed i x (name_in l.plan x)))
    × ((i x : ℕ) → x < 16 → (l.self.drawing.now.target.boards ≤ i) ⊎ (l.role ≤ x) → price_at l.prices i x ≡ 0)
