-- the senders before this one have their prices, and the other prices are as they were
use Rattle.std.proofs.Common.{◌≡◌, ℕ, ◌<◌, ◌≤◌, length, get_or}
use Rattle.settling.specs.Prices.{asked}
use Rattle.settling.specs.Records.{price_at}
use Rattle.settling.proofs.pricing.Pricing.fill_column.Given as goal

abbrev pub invariant-loop-sender : goal.invariant-loop-sender
invariant-loop-sender g l =
    (length l.prices ≡ 256)
    × ((i : ℕ) → i < l.sender → price_at l.prices i l.role ≡ g.T.Tariff.cost l.self.tariff.now (asked i l.receiver (get_or l.packages.bytes i 0) l.self.transformed))
    × ((i : ℕ) → l.sender ≤ i → price_at l.prices i l.role ≡ price_at l.initial.prices i l.role)
    × ((a b : ℕ) → b < 16 → (b ≡ l.role → ⊥) → price_at l.prices a b ≡ price_at l.initial.prices a b)
