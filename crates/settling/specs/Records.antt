-- Plans, what they propose, and the prices recorded with them. Assumes nothing.
--     name_in p x              the board that plan p names for role x
--     proposed p               what a plan proposes
--     price_at prices i x      the recorded price of board i's package for role x
--     Summed p prices          the plan's bill is the sum of the recorded prices
--     BlankPast n prices      nothing is recorded of senders and roles from n on
--     ColumnFilled price n packages t x y before after    the n senders' packages for role x, of these sizes, have their
--                              prices to board y after, and the other prices are as before
use Rattle.std.specs.Prelude.{◌≡◌, ℕ, ◌+◌, ◌*◌, ◌<◌, ◌≤◌, Bool, ◌⊎◌, List, length, ◌≢◌, slice_index}
use Rattle.assignment_laws.specs.Judging.{Proposal}
use Rattle.assignment_laws.specs.Namings.{total}
use Rattle.plans.specs.Plans.{line_of}
use Rattle.plans.specs.declared.plan.Plan.{Plan}
use Rattle.settling.specs.Prices.{asked}
use Rattle.tariffs.specs.declared.question.Question.{Question}

abbrev pub name_in : Plan → ℕ → ℕ
name_in p x = (line_of p x).board

abbrev pub proposed : Plan → Proposal
proposed p = record { name = name_in p; role_price = λ x. (line_of p x).u; board_price = λ x. (line_of p x).v; bill = p.bill }

abbrev pub price_at : List ℕ → ℕ → ℕ → ℕ
price_at prices i x = slice_index prices (i * 16 + x)

abbrev pub Summed : Plan → List ℕ → Type 0
Summed p prices = p.bill ≡ total (λ x. total (λ i. price_at prices i x) p.boards) p.boards

abbrev pub BlankPast : ℕ → List ℕ → Type 0
BlankPast n prices = (i x : ℕ) → x < 16 → (n ≤ i) ⊎ (n ≤ x) → price_at prices i x ≡ 0

pub record ColumnFilled (price : Question → ℕ) (n : ℕ) (packages : List ℕ) (t : Bool) (x y : ℕ) (before after : List ℕ) : Type 0 where
  pub len : length after ≡ length before
  pub here : (i : ℕ) → i < n → price_at after i x ≡ price (asked i y (slice_index packages i) t)
  pub later : (i : ℕ) → n ≤ i → price_at after i x ≡ price_at before i x
  pub others : (a b : ℕ) → b < 16 → (b ≢ x) → price_at after a b ≡ price_at before a b
