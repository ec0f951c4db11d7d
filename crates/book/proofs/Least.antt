-- A book's plan is a least one, whatever has been done.
use Rattle.std.proofs.Common.{◌≡◌, ℕ, Some, None, Ok, Err, Option, Result, sym, subst}
use Rattle.book.specs.Histories.{AlwaysLeast, LeastAt, given}
use Rattle.book.specs.Histories.Reaches.{start, drew, settled, adopted}
use Rattle.book.specs.Refusals.{turn_of}
use Rattle.book.specs.Steps.{AdoptTurn, DrawStep, FromTurn, SettleTurn}
use Rattle.book.specs.declared.fault.BookFault.{BookFault}
use Rattle.book.specs.declared.stage.Stage.{Stage}
use Rattle.book.specs.declared.stage.Stage.TheVariants.{Empty}
use Rattle.book.specs.declared.stage.Turn.{Turn}
use Rattle.faults.specs.declared.fault.Call.TheVariants.{Settle, Adopt}
use Rattle.layouts.specs.declared.layout.Layout.{Layout}
use Rattle.plans.specs.declared.plan.Plan.{Plan}
use Rattle.tariffs.specs.declared.question.Question.{Question}

module _ {E : Type 0} (one : E) (w : ℕ) where
  at_stage : (price : Question → ℕ) (s t : Stage E) → s ≡ t → LeastAt one w price t → LeastAt one w price s
  at_stage price s t e l = subst (LeastAt one w price) (sym e) l

  drawn : (letter : ℕ) (a b : Layout) (α : E) (s t : ℕ) (price : Question → ℕ) (before : Stage E) (r : Result (Unit {0}) BookFault) (after : Stage E)
      → DrawStep letter a b α s t before r after → LeastAt one w price before → LeastAt one w price after
  drawn letter a b α s t price before (Ok _) after step l = at_stage price after _ step.1.now_drawn tt
  drawn letter a b α s t price before (Err f) after step l = at_stage price after before step.2 l

  settled_turn : (n : ℕ) (new old : Question → ℕ) (before : Stage E) (o : Option (Turn E)) (r : Result (Unit {0}) BookFault) (after : Stage E)
      → FromTurn Settle before o r after (SettleTurn one w n new before r after) → LeastAt one w old before → LeastAt one w (given r new old) after
  settled_turn n new old before None (Ok _) after step l = let h = step.0 in cc
  settled_turn n new old before None (Err f) after step l = at_stage old after before step.2 l
  settled_turn n new old before (Some turn) (Ok _) after step l = at_stage new after _ step.1.1 step.1.2
  settled_turn n new old before (Some turn) (Err f) after step l = at_stage old after before step.2 l

  adopted_turn : (n : ℕ) (new old : Question → ℕ) (p : Plan) (before : Stage E) (o : Option (Turn E)) (r : Result (Unit {0}) BookFault) (after : Stage E)
      → FromTurn Adopt before o r after (AdoptTurn one w n new p before r after) → LeastAt one w old before → LeastAt one w (given r new old) after
  adopted_turn n new old p before None (Ok _) after step l = let h = step.0 in cc
  adopted_turn n new old p before None (Err f) after step l = at_stage old after before step.2 l
  adopted_turn n new old p before (Some turn) (Ok _) after step l = at_stage new after _ step.2.1.1 step.2.1.3
  adopted_turn n new old p before (Some turn) (Err f) after step l = at_stage old after before step.2.2 l

  pub always_least : AlwaysLeast one w
  always_least v (start _ e) = at_stage v.price v.stage Empty e tt
  always_least v (drew u _ letter a b α s t r h step q) =
      subst (λ price. LeastAt one w price v.stage) (sym q) (drawn letter a b α s t u.price u.stage r v.stage step (always_least u h))
  always_least v (settled u _ n price r h step q) =
      subst (λ price. LeastAt one w price v.stage) (sym q) (settled_turn n price u.price u.stage (turn_of u.stage) r v.stage step (always_least u h))
  always_least v (adopted u _ n price p r h step q) =
      subst (λ price. LeastAt one w price v.stage) (sym q) (adopted_turn n price u.price p u.stage (turn_of u.stage) r v.stage step (always_least u h))
