-- Proposed namings with prices: what certifies one, and which role of one is wrong. Assumes nothing.
--     Proposal                   a board for each role, a price for each role and for each board, and a bill
--     Within z                   the price z is within ± 2 ^ 50
--     Certified cost n p         p names each of n roles a board of its own, its prices are in range and feasible, and tight
--                                at the naming, and its bill is the naming's
--     first_below t n            the first number below n that passes the test t, if any
--     any_below t n              whether any number below n passes
--     misnamed n σ x             role x has no board below n, or one that an earlier role has
--     unpriced p x               the price of role x or of board x is out of range
--     unfair cost n p x          the prices of role x and of some board are above the cost, or below it at its own board
--     wrong_role cost n p        the first role that is wrong by itself, then the first whose prices are unfair, then n for a
--                                wrong bill
use Rattle.std.specs.Prelude.{◌≡◌, ℕ, zero, suc, ◌^◌, ◌<◌, Bool, false, cond, ◌||◌, ℤ, pos, ◌+ℤ◌, neg_ℤ, ◌≤ℤ◌, Some, None, Option, ◌==◌, int_lt, nat_eq, nat_le}
use Rattle.assignment_laws.specs.Namings.{Permutation, bill_of}

pub record Proposal : Type 0 where
  pub name : ℕ → ℕ
  pub role_price : ℕ → ℤ
  pub board_price : ℕ → ℤ
  pub bill : ℕ

abbrev pub Within : ℤ → Type 0
Within z = (neg_ℤ (pos (2 ^ 50)) ≤ℤ z) × (z ≤ℤ pos (2 ^ 50))

pub record Certified (cost : ℕ → ℕ → ℕ) (n : ℕ) (p : Proposal) : Type 0 where
  pub permutation : Permutation n p.name
  pub within : (x : ℕ) → x < n → Within (p.role_price x) × Within (p.board_price x)
  pub feasible : (x y : ℕ) → x < n → y < n → (p.role_price x +ℤ p.board_price y) ≤ℤ pos (cost x y)
  pub tight : (x : ℕ) → x < n → p.role_price x +ℤ p.board_price (p.name x) ≡ pos (cost x (p.name x))
  pub bill : p.bill ≡ bill_of cost n p.name

abbrev pub first_of : Option ℕ → Option ℕ → Option ℕ
first_of None o = o
first_of (Some k) o = Some k

abbrev pub first_below : (ℕ → Bool) → ℕ → Option ℕ
first_below t zero = None
first_below t (suc n) = first_of (first_below t n) (cond (t n) (Some n) None)

abbrev pub any_below : (ℕ → Bool) → ℕ → Bool
any_below t zero = false
any_below t (suc n) = t n || any_below t n

abbrev pub misnamed : ℕ → (ℕ → ℕ) → ℕ → Bool
misnamed n σ x = nat_le n (σ x) || any_below (λ k. nat_eq (σ k) (σ x)) x

abbrev pub beyond : ℤ → Bool
beyond z = int_lt z (neg_ℤ (pos (2 ^ 50))) || int_lt (pos (2 ^ 50)) z

abbrev pub unpriced : Proposal → ℕ → Bool
unpriced p x = beyond (p.role_price x) || beyond (p.board_price x)

-- wrong by itself: its board, or a price of its number
abbrev pub unfit : ℕ → Proposal → ℕ → Bool
unfit n p x = misnamed n p.name x || unpriced p x

abbrev pub unfair : (ℕ → ℕ → ℕ) → ℕ → Proposal → ℕ → Bool
unfair cost n p x =
    any_below (λ y. int_lt (pos (cost x y)) (p.role_price x +ℤ p.board_price y)) n
    || int_lt (p.role_price x +ℤ p.board_price (p.name x)) (pos (cost x (p.name x)))

abbrev pub wrong_bill : (ℕ → ℕ → ℕ) → ℕ → Proposal → Option ℕ
wrong_bill cost n p = cond (p.bill == bill_of cost n p.name) None (Some n)

abbrev pub wrong_role : (ℕ → ℕ → ℕ) → ℕ → Proposal → Option ℕ
wrong_role cost n p = first_of (first_below (unfit n p) n) (first_of (first_below (unfair cost n p) n) (wrong_bill cost n p))
