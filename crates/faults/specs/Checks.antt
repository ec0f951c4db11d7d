-- The shape of the promise of a check inside a layer. Assumes nothing.
--     Checks refusal r effect
--         where there is no cause of refusal, the result r is an Ok with the effect;
--         where there is one, r is an Err of that cause
use Rattle.std.specs.Prelude.{◌≡◌, Some, None, Option, Result, MatchResult}
use Rattle.faults.specs.declared.cause.Cause.{Cause}

abbrev pub Checks : {T : Type 0} → Option Cause → Result T Cause → (T → Type 0) → Type 0
Checks refusal r effect = MatchResult r (λ v. (refusal ≡ None) × effect v) (λ c. refusal ≡ Some c)
