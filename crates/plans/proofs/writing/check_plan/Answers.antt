use Rattle.std.proofs.Common.{◌≡◌, take, rules}
use Rattle.std.proofs.lemmas.Bool.Decides.{nat_tests}
use Rattle.sheets.specs.Sheet.{wrong_line}
use Rattle.plans.specs.Sheet.{write_refusal}
use Rattle.plans.proofs.Refusals.{checked}
use Rattle.plans.proofs.writing.check_plan.Goals as goal

pub returns : goal.returns
unfolding write_refusal
returns c =
    let p = c.args.plan.now in
    let lines_left : write_refusal p c.args.room ≡ wrong_line p.boards 0 (take p.boards p.lines) = search (rules, nat_tests) in
    checked p c.args.room c.check_lines.result lines_left c.check_lines.ensures
