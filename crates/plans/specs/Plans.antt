-- What a plan says. Assumes nothing.
--     line_of p x       the line of number x, blank where the plan has none
--     Blank n b p       p is the plan for n boards with bill b whose lines are all blank
--     WithLine p x l q q is p with line x replaced by l
--     line_refusal p x  a line is refused by 2 where x is not below the count of boards, or past the 16 that are kept
use Rattle.std.specs.Prelude.{◌≡◌, ℕ, cond, ◌&&◌, replicate, Some, None, Option, nat_lt, slice_index_or, slice_set}
use Rattle.faults.specs.declared.cause.Cause.{Cause}
use Rattle.faults.specs.declared.cause.Cause.TheVariants.{Board}
use Rattle.sheets.specs.Lines.{blank}
use Rattle.sheets.specs.declared.line.Line.{Line}
use Rattle.plans.specs.declared.plan.Plan.{Plan}

abbrev pub line_of : Plan → ℕ → Line
line_of p x = slice_index_or p.lines x blank

pub record Blank (n b : ℕ) (p : Plan) : Type 0 where
  pub boards : p.boards ≡ n
  pub bill : p.bill ≡ b
  pub lines : p.lines ≡ replicate 16 blank

pub record WithLine (p : Plan) (x : ℕ) (l : Line) (q : Plan) : Type 0 where
  pub boards : q.boards ≡ p.boards
  pub bill : q.bill ≡ p.bill
  pub lines : q.lines ≡ slice_set p.lines x l

abbrev pub line_refusal : Plan → ℕ → Option Cause
line_refusal p x = cond (nat_lt x p.boards && nat_lt x 16) None (Some (Board x))
