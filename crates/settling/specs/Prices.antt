-- What the packages of a drawing cost by a tariff. Assumes nothing.
--     Marked op one t          t says whether packages are transformed: they are, unless the operation is the identity and the
--                              factor is one
--     asked i y size t         what is asked of a package of this size that board i sends to board y
--     question d w t i x y     what is asked of the package of board i for role x, sent to board y, elements having w words
--     cost_of price d w t x y  what role x costs on board y: the sum over the senders of their packages' prices
--     count_refusal d n        a tariff or a plan for n boards is refused by 8 unless the drawing has as many
--     Costed price d w t c     c is the table of these costs, and 0 past them
--     RowFilled price packages t x before after    the row of role x, whose senders' packages have these sizes, has the
--                              boards' costs after, and the other rows are as before
use Rattle.std.specs.Prelude.{◌≡◌, ℕ, ◌<◌, ◌≤◌, Bool, cond, ◌⊎◌, List, Some, None, Decides, Option, ◌==◌, ◌≢◌, slice_index}
use Rattle.assignment_costs.specs.Costs.{cost_at}
use Rattle.assignment_costs.specs.declared.costs.Costs.{Costs}
use Rattle.assignment_laws.specs.Namings.{total}
use Rattle.drawings.specs.Drawings.{package_of}
use Rattle.drawings.specs.declared.drawing.Drawing.{Drawing}
use Rattle.faults.specs.declared.cause.Cause.{Cause}
use Rattle.faults.specs.declared.cause.Cause.TheVariants.{Count}
use Rattle.overlays.specs.Packages.{bytes}
use Rattle.overlays.specs.declared.operation.Operation.{Operation}
use Rattle.overlays.specs.declared.operation.Operation.TheVariants.{Identity}
use Rattle.tariffs.specs.declared.question.Question.{Question}

abbrev pub Marked : Operation → Type 0 → Bool → Type 0
Marked op one t = Decides t ((op ≡ Identity) × one → ⊥)

abbrev pub asked : ℕ → ℕ → ℕ → Bool → Question
asked i y size t = record { sender = i; receiver = y; bytes = size; transformed = t }

abbrev pub question : Drawing → ℕ → Bool → ℕ → ℕ → ℕ → Question
question d w t i x y = asked i y (bytes (package_of d i x) w) t

abbrev pub cost_of : (Question → ℕ) → Drawing → ℕ → Bool → ℕ → ℕ → ℕ
cost_of price d w t x y = total (λ i. price (question d w t i x y)) d.target.boards

abbrev pub count_refusal : Drawing → ℕ → Option Cause
count_refusal d n = cond (n == d.target.boards) None (Some (Count n))

pub record Costed (price : Question → ℕ) (d : Drawing) (w : ℕ) (t : Bool) (c : Costs) : Type 0 where
  pub count : c.boards ≡ d.target.boards
  pub entries : (x y : ℕ) → x < d.target.boards → y < d.target.boards → cost_at c x y ≡ cost_of price d w t x y
  pub past : (x y : ℕ) → y < 16 → (d.target.boards ≤ x) ⊎ (d.target.boards ≤ y) → cost_at c x y ≡ 0

pub record RowFilled (price : Question → ℕ) (packages : List ℕ) (t : Bool) (x : ℕ) (before after : Costs) : Type 0 where
  pub count : after.boards ≡ before.boards
  pub here : (y : ℕ) → y < before.boards → cost_at after x y ≡ total (λ i. price (asked i y (slice_index packages i) t)) before.boards
  pub later : (y : ℕ) → y < 16 → before.boards ≤ y → cost_at after x y ≡ cost_at before x y
  pub others : (a b : ℕ) → b < 16 → (a ≢ x) → cost_at after a b ≡ cost_at before a b
