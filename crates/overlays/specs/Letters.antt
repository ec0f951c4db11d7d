-- The letters of the operations. Assumes nothing.
--     operation_of letter    the operation that N (code 78), T (84) or C (67) names
--     Decodes letter r       r is an Ok of the operation that the letter names, or else an Err of the letter
use Rattle.std.specs.Prelude.{◌≡◌, ℕ, cond, Some, None, Option, ◌==◌, Result, MatchResult}
use Rattle.faults.specs.declared.cause.Cause.{Cause}
use Rattle.faults.specs.declared.cause.Cause.TheVariants.{Letter}
use Rattle.overlays.specs.declared.operation.Operation.{Operation}
use Rattle.overlays.specs.declared.operation.Operation.TheVariants.{Identity, Transpose, ConjugateTranspose}

abbrev pub operation_of : ℕ → Option Operation
operation_of letter = cond (letter == 78) (Some Identity) (cond (letter == 84) (Some Transpose) (cond (letter == 67) (Some ConjugateTranspose) None))

abbrev pub Decodes : ℕ → Result Operation Cause → Type 0
Decodes letter r = MatchResult r (λ op. operation_of letter ≡ Some op) (λ c. (operation_of letter ≡ None) × (c ≡ Letter letter))
