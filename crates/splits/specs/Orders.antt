-- The letters of the orders. Assumes nothing.
--     letter_of o         the letter of an order, R (code 82) or C (code 67)
--     order_of letter     the order that R (code 82) or C (code 67) names
--     IsLetterOf o letter    the letter is the order's
--     IsOrderOf letter r     r is an Ok of the order that the letter names, or else an Err of the letter
use Rattle.std.specs.Prelude.{◌≡◌, ℕ, cond, Some, None, Option, Result, MatchResult, ◌==◌}
use Rattle.faults.specs.declared.cause.Cause.{Cause}
use Rattle.faults.specs.declared.cause.Cause.TheVariants.{Letter}
use Rattle.splits.specs.declared.order.Order.{Order}
use Rattle.splits.specs.declared.order.Order.TheVariants.{RowMajor, ColumnMajor}

abbrev pub letter_of : Order → ℕ
letter_of RowMajor = 82
letter_of ColumnMajor = 67

abbrev pub order_of : ℕ → Option Order
order_of letter = cond (letter == 82) (Some RowMajor) (cond (letter == 67) (Some ColumnMajor) None)

abbrev pub IsLetterOf : Order → ℕ → Type 0
IsLetterOf o letter = letter ≡ letter_of o

abbrev pub IsOrderOf : ℕ → Result Order Cause → Type 0
IsOrderOf letter r = MatchResult r (λ o. order_of letter ≡ Some o) (λ c. (order_of letter ≡ None) × (c ≡ Letter letter))
