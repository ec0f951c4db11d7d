-- What is known of a list that is not refused.
use Rattle.std.proofs.Common.{◌≡◌, ℕ, List, Some, None, Option, refl, arith}
use Rattle.std.specs.Option.{option_map}
use Rattle.faults.specs.Lists.{Rule, first_wrong}
use Rattle.faults.specs.declared.cause.Cause.TheVariants.{Beyond}
use Rattle.bounded_lists.specs.Lists.{list_refusal}

unwrapped : (o : Option ℕ) → option_map Beyond o ≡ None → o ≡ None
unwrapped None e = refl
unwrapped (Some i) e = let z : ◌≡◌ {A = ℕ} 0 1 = cc in absurd (omega arith)

pub list_kept : (may : Rule) (xs : List ℕ) → list_refusal may xs ≡ None → first_wrong may xs ≡ None
list_kept may xs e = unwrapped (first_wrong may xs) e
