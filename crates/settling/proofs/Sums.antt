-- Sums of prices.
use Rattle.std.proofs.Common.{◌≡◌, ℕ, zero, suc, ◌*◌, ◌<◌, ◌≤◌, map, refl, add-one, arith}
use Rattle.std.proofs.lemmas.List.FromFn.{sum_by-map-range_with_len_more}
use Rattle.std.specs.List.{range_with_len, sum_by}
use Rattle.assignment_laws.specs.Namings.{total}
use Rattle.tariffs.specs.Laws.{highest_price}

-- a total is the sum of a list
pub total_listed : (f : ℕ → ℕ) (n : ℕ) → sum_by (λ x. x) (map f (range_with_len 0 n)) ≡ total f n
total_listed f zero = refl
total_listed f (suc n) = omega (arith, rw add-one at (sum_by-map-range_with_len_more {X = ℕ} (λ x. x) f 0 n n (omega arith)), total_listed f n)

pub total_priced : (f : ℕ → ℕ) (n : ℕ) → ((x : ℕ) → x < n → f x ≤ highest_price) → total f n ≤ n * highest_price
total_priced f zero h = omega arith
total_priced f (suc n) h = omega (arith, h n (omega arith), total_priced f n (λ x l. h x (omega arith)))
