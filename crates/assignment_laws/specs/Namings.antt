-- Namings of roles by boards, their bills, and prices. Assumes nothing.
--     total f n                 f 0 + f 1 + .. + f (n - 1)
--     Permutation n σ           σ gives each role below n a board below n, and no two roles the same one
--     bill_of cost n σ          what the naming σ costs: the sum of cost x (σ x) over the roles x
--     Least cost n b            no naming costs less than b
--     Feasible cost n u w       the price u of a role is at most a pair's cost and the discount w of its board
--     Tight cost n u w σ        it is exactly that at the board that σ gives
--     LeastBills               feasible prices that are tight at a naming make its bill least
use Rattle.std.specs.Prelude.{◌≡◌, ℕ, zero, suc, ◌+◌, ◌<◌, ◌≤◌}

abbrev pub total : (ℕ → ℕ) → ℕ → ℕ
total f zero = 0
total f (suc n) = total f n + f n

pub record Permutation (n : ℕ) (σ : ℕ → ℕ) : Type 0 where
  pub below : (x : ℕ) → x < n → σ x < n
  pub apart : (x y : ℕ) → x < n → y < n → σ x ≡ σ y → x ≡ y

abbrev pub bill_of : (ℕ → ℕ → ℕ) → ℕ → (ℕ → ℕ) → ℕ
bill_of cost n σ = total (λ x. cost x (σ x)) n

abbrev pub Least : (ℕ → ℕ → ℕ) → ℕ → ℕ → Type 0
Least cost n b = (τ : ℕ → ℕ) → Permutation n τ → b ≤ bill_of cost n τ

abbrev pub Feasible : (ℕ → ℕ → ℕ) → ℕ → (ℕ → ℕ) → (ℕ → ℕ) → Type 0
Feasible cost n u w = (x y : ℕ) → x < n → y < n → u x ≤ cost x y + w y

abbrev pub Tight : (ℕ → ℕ → ℕ) → ℕ → (ℕ → ℕ) → (ℕ → ℕ) → (ℕ → ℕ) → Type 0
Tight cost n u w σ = (x : ℕ) → x < n → u x ≡ cost x (σ x) + w (σ x)

abbrev pub LeastBills : Type 0
LeastBills =
    (cost : ℕ → ℕ → ℕ) (n : ℕ) (u w σ : ℕ → ℕ) → Feasible cost n u w → Permutation n σ → Tight cost n u w σ → Least cost n (bill_of cost n σ)
