-- What the calls of a book do to its stage. Each call's promise is its step. Assumes nothing.
--     DrawStep letter a b α s t before r after     a drawing of these parts, from any stage
--     SettleStep one w n price before r after      a least plan by the prices of a tariff for n boards
--     AdoptStep one w n price p before r after     the proposed plan p, if it is certified by these prices
-- The elements have w words each, and their one is `one`.
use Rattle.std.specs.Prelude.{◌≡◌, ℕ, Bool, Some, None, Option, Ok, Err, Result, MatchResult}
use Rattle.std.specs.Option.{option_map}
use Rattle.book.specs.Refusals.{Told, draw_refusal, own, state_refusal, turn_of}
use Rattle.book.specs.declared.fault.BookFault.{BookFault}
use Rattle.book.specs.declared.stage.Stage.{Stage}
use Rattle.book.specs.declared.stage.Stage.TheVariants.{Drawn, Settled}
use Rattle.book.specs.declared.stage.Turn.{Turn}
use Rattle.drawings.specs.Making.{Made}
use Rattle.faults.specs.declared.fault.Call.{Call}
use Rattle.faults.specs.declared.fault.Call.TheVariants.{Draw, Settle, Adopt}
use Rattle.faults.specs.declared.fault.Fault.{Fault}
use Rattle.layouts.specs.declared.layout.Layout.{Layout}
use Rattle.plans.specs.declared.plan.Plan.{Plan}
use Rattle.settling.specs.Prices.{Marked, count_refusal}
use Rattle.settling.specs.Settling.{Settles, adopt_refusal}
use Rattle.settling.specs.declared.settlement.Settlement.{Settlement}
use Rattle.tariffs.specs.declared.question.Question.{Question}

pub record Drew {E : Type 0} (letter : ℕ) (a b : Layout) (α : E) (s t : ℕ) (after : Stage E) : Type 0 where
  pub turn : Turn E
  pub now_drawn : after ≡ Drawn turn
  pub drawing : Made letter a b s t turn.drawing
  pub factor : turn.alpha ≡ α

abbrev pub DrawStep : {E : Type 0} → ℕ → Layout → Layout → E → ℕ → ℕ → Stage E → Result (Unit {0}) BookFault → Stage E → Type 0
DrawStep letter a b α s t before r after = Told Draw (draw_refusal letter a b s t) r (λ _. Drew letter a b α s t after) (after ≡ before)

-- the plan of a turn by a tariff's prices, with the mark that its packages have
pub record SettledBy {E : Type 0} (one : E) (w : ℕ) (price : Question → ℕ) (turn : Turn E) (s : Settlement) : Type 0 where
  pub mark : Bool
  pub marked : Marked turn.drawing.operation (turn.alpha ≡ one) mark
  pub settles : Settles price turn.drawing w mark s

-- a call that needs a drawing is refused by 7 where nothing is drawn
abbrev pub FromTurn : {E : Type 0} → Call → Stage E → Option (Turn E) → Result (Unit {0}) BookFault → Stage E → (Turn E → Type 0) → Type 0
FromTurn call before None r after step = Told call (Some (state_refusal call before)) r (λ _. Unit {0}) (after ≡ before)
FromTurn call before (Some turn) r after step = step turn

-- what is found for a turn is taken, or its fault is carried and the stage is as before
abbrev pub Taken : {E : Type 0} → Call → Turn E → Result Settlement Fault → Stage E → Result (Unit {0}) BookFault → Stage E → Type 0
Taken call turn found before r after =
    MatchResult found (λ s. (r ≡ Ok tt) × (after ≡ Settled turn s)) (λ f. (r ≡ Err (record { call = call; fault = f })) × (after ≡ before))

abbrev pub SettleTurn : {E : Type 0} → E → ℕ → ℕ → (Question → ℕ) → Stage E → Result (Unit {0}) BookFault → Stage E → Turn E → Type 0
SettleTurn one w n price before r after turn =
    Told Settle (option_map (own Settle) (count_refusal turn.drawing n)) r
    (λ _. (s : Settlement) × (after ≡ Settled turn s) × SettledBy one w price turn s)
    (after ≡ before)

abbrev pub SettleStep : {E : Type 0} → E → ℕ → ℕ → (Question → ℕ) → Stage E → Result (Unit {0}) BookFault → Stage E → Type 0
SettleStep one w n price before r after = FromTurn Settle before (turn_of before) r after (SettleTurn one w n price before r after)

abbrev pub AdoptTurn : {E : Type 0} → E → ℕ → ℕ → (Question → ℕ) → Plan → Stage E → Result (Unit {0}) BookFault → Stage E → Turn E → Type 0
AdoptTurn one w n price p before r after turn =
    (t : Bool) × Marked turn.drawing.operation (turn.alpha ≡ one) t
    × Told Adopt (option_map (own Adopt) (adopt_refusal price turn.drawing w t n p)) r
    (λ _. (s : Settlement) × (after ≡ Settled turn s) × (s.plan ≡ p) × SettledBy one w price turn s)
    (after ≡ before)

abbrev pub AdoptStep : {E : Type 0} → E → ℕ → ℕ → (Question → ℕ) → Plan → Stage E → Result (Unit {0}) BookFault → Stage E → Type 0
AdoptStep one w n price p before r after = FromTurn Adopt before (turn_of before) r after (AdoptTurn one w n price p before r after)
