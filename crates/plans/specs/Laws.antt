-- The laws that tie plans to their sheets. Assumes nothing.
--     SheetsReadBack     the sheet of a legal plan is read, and as that plan alone
--     SheetsAreOne       a text is the sheet of one plan at most
use Rattle.std.specs.Prelude.{◌≡◌, ℕ, List, None}
use Rattle.plans.specs.Sheet.{Legal, SheetOf, read_refusal, sheet}
use Rattle.plans.specs.declared.plan.Plan.{Plan}

abbrev pub SheetsReadBack : Type 0
SheetsReadBack = (p : Plan) → Legal p → read_refusal (sheet p) ≡ None

abbrev pub SheetsAreOne : Type 0
SheetsAreOne = (p q : Plan) (bs : List ℕ) → SheetOf p bs → SheetOf q bs → p ≡ q
