-- Books and what has been done with them. Assumes nothing.
--     World               a book's stage, and the prices of the tariff that its last accepted settle or adopt was given
--     given r new old     the new prices where the call was accepted, else the old ones
--     Reaches one w v     the world v comes about from an empty book by draws, settles and adopts in any order, accepted or
--                         refused, each as its promise says; the elements have w words each, and their one is `one`
--     LeastPlan one w v  a plan that the book of v has is certified by those prices: its naming is a permutation, its bill is
--                         the sum of the recorded prices of its packages, and every other naming costs at least as much
--     AlwaysLeast one w  so it is in every world that comes about
use Rattle.std.specs.Prelude.{◌≡◌, ℕ, Ok, Err, Result}
use Rattle.book.specs.Steps.{AdoptStep, DrawStep, SettleStep, SettledBy}
use Rattle.book.specs.declared.fault.BookFault.{BookFault}
use Rattle.book.specs.declared.stage.Stage.{Stage}
use Rattle.book.specs.declared.stage.Stage.TheVariants.{Empty, Drawn, Settled}
use Rattle.layouts.specs.declared.layout.Layout.{Layout}
use Rattle.plans.specs.declared.plan.Plan.{Plan}
use Rattle.tariffs.specs.declared.question.Question.{Question}

pub record World (E : Type 0) : Type 0 where
  pub stage : Stage E
  pub price : Question → ℕ

abbrev pub given : Result (Unit {0}) BookFault → (Question → ℕ) → (Question → ℕ) → Question → ℕ
given (Ok _) new old = new
given (Err _) new old = old

pub data Reaches {E : Type 0} (one : E) (w : ℕ) : World E → Type 0 where
  start : (v : World E) → v.stage ≡ Empty → Reaches one w v
  drew :
      (u v : World E) (letter : ℕ) (a b : Layout) (α : E) (s t : ℕ) (r : Result (Unit {0}) BookFault)
      → Reaches one w u → DrawStep letter a b α s t u.stage r v.stage → v.price ≡ u.price → Reaches one w v
  settled :
      (u v : World E) (n : ℕ) (price : Question → ℕ) (r : Result (Unit {0}) BookFault)
      → Reaches one w u → SettleStep one w n price u.stage r v.stage → v.price ≡ given r price u.price → Reaches one w v
  adopted :
      (u v : World E) (n : ℕ) (price : Question → ℕ) (p : Plan) (r : Result (Unit {0}) BookFault)
      → Reaches one w u → AdoptStep one w n price p u.stage r v.stage → v.price ≡ given r price u.price → Reaches one w v

abbrev pub LeastAt : {E : Type 0} → E → ℕ → (Question → ℕ) → Stage E → Type 0
LeastAt one w price Empty = Unit {0}
LeastAt one w price (Drawn turn) = Unit {0}
LeastAt one w price (Settled turn s) = SettledBy one w price turn s

abbrev pub LeastPlan : {E : Type 0} → E → ℕ → World E → Type 0
LeastPlan one w v = LeastAt one w v.price v.stage

abbrev pub AlwaysLeast : {E : Type 0} → E → ℕ → Type 0
AlwaysLeast {E} one w = (v : World E) → Reaches one w v → LeastPlan one w v
