-- The refusals of a book. Assumes nothing.
--     Told call refusal r effect same     the promise of a call of the book: where no fault refuses it, r is an Ok with the
--                                         effect; where one does, r is an Err that names the call and has that fault whole,
--                                         and all is the same
--     own call cause          the fault of the book itself
--     state_of s              the state of a book at stage s
--     turn_of s               what is drawn at stage s, if anything
--     settlement_of s         what is settled, if anything
--     state_refusal call s    the refusal of a call that the state forbids, 7
--     draw_refusal ..         the refusal of the drawing
use Rattle.std.specs.Prelude.{◌≡◌, ℕ, Some, None, Option, Result, MatchResult}
use Rattle.std.specs.Option.{option_map}
use Rattle.book.specs.declared.fault.BookFault.{BookFault}
use Rattle.book.specs.declared.stage.Stage.{Stage}
use Rattle.book.specs.declared.stage.Stage.TheVariants.{Empty, Drawn, Settled}
use Rattle.book.specs.declared.stage.Turn.{Turn}
use Rattle.drawings.specs.Making.{make_refusal}
use Rattle.faults.specs.declared.cause.Cause.{Cause}
use Rattle.faults.specs.declared.cause.Cause.TheVariants as cause
use Rattle.faults.specs.declared.cause.State.{State}
use Rattle.faults.specs.declared.cause.State.TheVariants as state
use Rattle.faults.specs.declared.fault.Call.{Call}
use Rattle.faults.specs.declared.fault.Call.TheVariants as call
use Rattle.faults.specs.declared.fault.Fault.{Fault}
use Rattle.faults.specs.declared.fault.Layer.TheVariants as layer
use Rattle.layouts.specs.declared.layout.Layout.{Layout}
use Rattle.settling.specs.declared.settlement.Settlement.{Settlement}

abbrev pub Told : {T : Type 0} → Call → Option Fault → Result T BookFault → (T → Type 0) → Type 0 → Type 0
Told call refusal r effect same = MatchResult r (λ v. (refusal ≡ None) × effect v) (λ f. (refusal ≡ Some f.fault) × (f.call ≡ call) × same)

abbrev pub own : Call → Cause → Fault
own c why = record { layer = layer.Book; call = c; cause = why }

abbrev pub state_of : {E : Type 0} → Stage E → State
state_of Empty = state.Empty
state_of (Drawn turn) = state.Drawn
state_of (Settled turn s) = state.Settled

abbrev pub turn_of : {E : Type 0} → Stage E → Option (Turn E)
turn_of Empty = None
turn_of (Drawn turn) = Some turn
turn_of (Settled turn s) = Some turn

abbrev pub settlement_of : {E : Type 0} → Stage E → Option Settlement
settlement_of Empty = None
settlement_of (Drawn turn) = None
settlement_of (Settled turn s) = Some s

abbrev pub state_refusal : {E : Type 0} → Call → Stage E → Fault
state_refusal c s = own c (cause.State (state_of s))

abbrev pub draw_refusal : ℕ → Layout → Layout → ℕ → ℕ → Option Fault
draw_refusal letter a b s t = option_map (λ why. record { layer = layer.Drawings; call = call.Make; cause = why }) (make_refusal letter a b s t)
