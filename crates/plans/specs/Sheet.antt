-- The sheet that a plan is written as, and when writing it is refused. Assumes nothing.
--     sheet p             the text of plan p: n and the bill, then a line for each number x below n
--     Legal p             every number of p is in its limits: such plans have a sheet
--     SheetOf p bs        the relation between a legal plan and its text
--     LinesRead bs n b p  p holds what the lines of bs say, for n boards and with bill b
--     write_refusal p k   why p is not written to a buffer of k bytes: 2, then 11, then 16 for the first number beyond its limits
--     Written p before k after    k bytes of the buffer hold the sheet of p now, and the rest is as it was
-- The limits, the text of a line, and when reading a sheet is refused, are defined in the crate of sheets.
use Rattle.std.specs.Prelude.{◌≡◌, ℕ, ◌*◌, ◌<◌, ◌≤◌, cond, ◌&&◌, List, ◌++◌, take, drop, Some, None, Option, nat_le}
use Rattle.faults.specs.declared.cause.Cause.{Cause}
use Rattle.faults.specs.declared.cause.Cause.TheVariants.{Board, Length, Field}
use Rattle.plans.specs.Plans.{line_of}
use Rattle.plans.specs.declared.plan.Plan.{Plan}
use Rattle.sheets.specs.Sheet.{LegalLine, first_illegal, first_line, lines_fields, lines_text, part, wrong_line}
pub use Rattle.sheets.specs.Sheet.{read_refusal, sheet_length}

unfoldable pub sheet : Plan → List ℕ
sheet p = first_line p.boards p.bill ++ lines_text 0 (take p.boards p.lines)

pub record Legal (p : Plan) : Type 0 where
  pub some : 1 ≤ p.boards
  pub few : p.boards ≤ 16
  pub bill : p.bill ≤ 281474976710656
  pub lines : (x : ℕ) → x < p.boards → LegalLine p.boards (line_of p x)

pub record SheetOf (p : Plan) (bs : List ℕ) : Type 0 where
  pub legal : Legal p
  pub is : bs ≡ sheet p

-- p holds what the lines of bs say, all of them legal
pub record LinesRead (bs : List ℕ) (n b : ℕ) (p : Plan) : Type 0 where
  pub boards : p.boards ≡ n
  pub bill : p.bill ≡ b
  pub none : first_illegal bs (lines_fields n 0 n) ≡ None
  pub legal : (x : ℕ) → x < n → LegalLine n (line_of p x)
  pub is : part bs 25 (49 * n) ≡ lines_text 0 (take n p.lines)

abbrev pub wrong_number : Plan → Option Cause
wrong_number p = cond (nat_le p.bill 281474976710656) (wrong_line p.boards 0 (take p.boards p.lines)) (Some (Field 1 5))

unfoldable pub write_refusal : Plan → ℕ → Option Cause
write_refusal p k =
    cond (nat_le 1 p.boards && nat_le p.boards 16)
    (cond (nat_le (sheet_length p.boards) k) (wrong_number p) (Some (Length (sheet_length p.boards))))
    (Some (Board p.boards))

-- k bytes of the buffer hold the sheet of p now, and the rest is as it was
pub record Written (p : Plan) (before : List ℕ) (k : ℕ) (after : List ℕ) : Type 0 where
  pub legal : Legal p
  pub len : k ≡ sheet_length p.boards
  pub is : after ≡ sheet p ++ drop k before
