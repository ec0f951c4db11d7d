use Rattle.std.proofs.Common.{◌≡◌, take, drop}
use Rattle.sheets.specs.Sheet.{wrong_line}
use Rattle.plans.proofs.writing.check_lines.Given as goal

abbrev pub invariant-loop-x : goal.invariant-loop-x
invariant-loop-x l =
    wrong_line l.plan.boards l.x (drop l.x (take l.plan.boards l.plan.lines))
    ≡ wrong_line l.plan.boards 0 (take l.plan.boards l.plan.lines)
