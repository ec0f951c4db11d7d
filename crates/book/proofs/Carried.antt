-- Faults that a book carries, and calls on what is drawn.
use Rattle.std.proofs.Common.{◌≡◌, Some, Ok, Err, Option, Result, sym, refl, ap, ◌∙◌, subst}
use Rattle.std.specs.Option.{option_map}
use Rattle.std.specs.Prelude.{MatchResult}
use Rattle.std.specs.Result.{IsErrAnd}
use Rattle.book.specs.Refusals.{Told, own, turn_of}
use Rattle.book.specs.Steps.{FromTurn, Taken}
use Rattle.book.specs.declared.fault.BookFault.{BookFault}
use Rattle.book.specs.declared.stage.Stage.{Stage}
use Rattle.book.specs.declared.stage.Stage.TheVariants.{Settled}
use Rattle.book.specs.declared.stage.Turn.{Turn}
use Rattle.faults.specs.Answers.{Answers}
use Rattle.faults.specs.declared.cause.Cause.{Cause}
use Rattle.faults.specs.declared.fault.Call.{Call}
use Rattle.faults.specs.declared.fault.Fault.{Fault}
use Rattle.faults.specs.declared.fault.Layer.{Layer}
use Rattle.faults.specs.declared.fault.Layer.TheVariants.{Book}
use Rattle.settling.specs.declared.settlement.Settlement.{Settlement}

abbrev fault_of : Layer → Call → Cause → Fault
fault_of layer call why = record { layer = layer; call = call; cause = why }

-- a fault that names a layer and a call is what they make of its cause
pub carried : (layer : Layer) (call : Call) (o : Option Cause) (f : Fault) → o ≡ Some f.cause → f.layer ≡ layer → f.call ≡ call
    → option_map (fault_of layer call) o ≡ Some f
carried layer call o f e l k =
    let same : fault_of layer call f.cause ≡ f = λ i. record { layer = sym l i; call = sym k i; cause = f.cause } in
    ap (option_map (fault_of layer call)) e ∙ ap Some same

-- the fault of a lower layer is carried whole
pub told : {T : Type 0} (call : Call) (layer : Layer) (inner : Call) (o : Option Cause) (A B : T → Type 0) (r : Result T Fault) (s : Result T BookFault)
    → ((v : T) → A v → B v) → Answers layer inner o r A (Unit {0})
    → MatchResult r (λ v. s ≡ Ok v) (λ f. IsErrAnd s (λ b. b ≡ record { call = call; fault = f }))
    → Told call (option_map (fault_of layer inner) o) s B (Unit {0})
told call layer inner o A B (Ok v) s g a m =
    subst (λ z. Told call (option_map (fault_of layer inner) o) z B (Unit {0})) (sym m) (ap (option_map (fault_of layer inner)) a.0, g v a.1)
told call layer inner o A B (Err f) (Ok v) g a m = absurd m
told call layer inner o A B (Err f) (Err b) g a m =
    (carried layer inner o f a.0 a.1 a.2 ∙ ap Some (sym (ap (λ z. z.fault) m)), ap (λ z. z.call) m, tt)

-- what is found for a turn is what the book tells
pub taken : {E : Type 0} (call : Call) (turn : Turn E) (o : Option Cause) (A : Settlement → Type 0) (effect : Type 0) (found : Result Settlement Fault)
    (before : Stage E) (r : Result (Unit {0}) BookFault) (after : Stage E)
    → ((s : Settlement) → after ≡ Settled turn s → A s → effect) → Answers Book call o found A (Unit {0}) → Taken call turn found before r after
    → Told call (option_map (own call) o) r (λ _. effect) (after ≡ before)
taken call turn o A effect (Ok s) before r after g a k =
    subst (λ z. Told call (option_map (own call) o) z (λ _. effect) (after ≡ before)) (sym k.0) (ap (option_map (own call)) a.0, g s k.1 a.1)
taken call turn o A effect (Err f) before r after g a k =
    subst (λ z. Told call (option_map (own call) o) z (λ _. effect) (after ≡ before)) (sym k.0) (carried Book call o f a.0 a.1 a.2, refl, k.1)

pub from_turn : {E : Type 0} (call : Call) (before : Stage E) (turn : Turn E) (r : Result (Unit {0}) BookFault) (after : Stage E) (step : Turn E → Type 0)
    → turn_of before ≡ Some turn → step turn → FromTurn call before (turn_of before) r after step
from_turn call before turn r after step e s = subst (λ o. FromTurn call before o r after step) (sym e) s
