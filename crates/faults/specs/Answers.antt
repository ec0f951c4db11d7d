-- The shape of every promise that may be a refusal. Assumes nothing.
--     Answers layer call refusal r effect same
--         where the call has no cause of refusal, the result r is an Ok with the effect;
--         where it has one, r is an Err of the fault that names layer, call and that cause, and all is the same
-- `refusal` is read off the inputs alone, so r is an Ok exactly where it is None.
use Rattle.std.specs.Prelude.{◌≡◌, Some, None, Option, Result, MatchResult}
use Rattle.faults.specs.declared.cause.Cause.{Cause}
use Rattle.faults.specs.declared.fault.Call.{Call}
use Rattle.faults.specs.declared.fault.Fault.{Fault}
use Rattle.faults.specs.declared.fault.Layer.{Layer}

abbrev pub Answers : {T : Type 0} → Layer → Call → Option Cause → Result T Fault → (T → Type 0) → Type 0 → Type 0
Answers layer call refusal r effect same =
    MatchResult r (λ v. (refusal ≡ None) × effect v) (λ f. (refusal ≡ Some f.cause) × (f.layer ≡ layer) × (f.call ≡ call) × same)
