-- Two tables of two roles each, worked by hand. Assumes nothing.
--     two a b c d         the table with the rows (a, b) and (c, d)
--     own, exchanged      the two namings of two roles
--     CheapestFirst      in the rows (0, 1) and (1, 10) the pair of role 0 and board 0 is the cheapest;
--                         whoever gives it out pays 10, and the least bill is 2
--     Exchange            in the rows (4, 12) and (8, 24) own names cost 28, the exchange costs 20, and 20 is least
use Rattle.std.specs.Prelude.{◌≡◌, ℕ, ◌-◌, ◌<◌, ◌≤◌, cond, ◌==◌}
use Rattle.assignment_laws.specs.Namings.{Permutation, bill_of, Least}

abbrev pub two : ℕ → ℕ → ℕ → ℕ → ℕ → ℕ → ℕ
two a b c d x y = cond (x == 0) (cond (y == 0) a b) (cond (y == 0) c d)

abbrev pub own : ℕ → ℕ
own x = x

abbrev pub exchanged : ℕ → ℕ
exchanged x = 1 - x

pub record CheapestFirst : Type 0 where
  pub cheapest : (x y : ℕ) → x < 2 → y < 2 → two 0 1 1 10 0 0 ≤ two 0 1 1 10 x y
  pub taken : (σ : ℕ → ℕ) → Permutation 2 σ → σ 0 ≡ 0 → bill_of (two 0 1 1 10) 2 σ ≡ 10
  pub other : Permutation 2 exchanged × (bill_of (two 0 1 1 10) 2 exchanged ≡ 2)
  pub least : Least (two 0 1 1 10) 2 2

pub record Exchange : Type 0 where
  pub own_names : Permutation 2 own × (bill_of (two 4 12 8 24) 2 own ≡ 28)
  pub other : Permutation 2 exchanged × (bill_of (two 4 12 8 24) 2 exchanged ≡ 20)
  pub least : Least (two 4 12 8 24) 2 20
