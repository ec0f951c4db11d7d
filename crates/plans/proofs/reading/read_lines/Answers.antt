use Rattle.std.proofs.Common.{◌≡◌, suc, ◌+◌, ◌-◌, ◌<◌, sym, ap, ◌∙◌, arith}
use Rattle.std.proofs.lemmas.List.{length-set}
use Rattle.std.proofs.lemmas.Result.{err_from_is_err_and}
use Rattle.sheets.specs.Sheet.{first_illegal, line_fields, lines_fields}
use Rattle.sheets.proofs.LinesRead.{illegal_after, illegal_before, lines_next, text_more, rest_more, legal_more}
use Rattle.plans.proofs.reading.read_lines.Goals as goal

pub returns-in_err-lines : goal.returns-in_err-lines
returns-in_err-lines c =
    let bs = c.args.bytes.now in
    let n = c.args.boards in
    let x = c.loop-x.x in
    let left : n - x ≡ suc (n - (x + 1)) = omega arith in
    let p = err_from_is_err_and c.from_residual.result c.from_residual.ensures.1 in
    rw (p.1, p.2) (
    sym c.loop-x.invariant.2
    ∙ ap (first_illegal bs) (lines_next n x (n - x) (n - (x + 1)) left)
    ∙ illegal_before bs (line_fields n x) (lines_fields n (x + 1) (n - (x + 1))) c.in_err-lines.field-0.0 c.in_err-lines.ensures
    )

pub loop-x-preserved : goal.loop-x-preserved
loop-x-preserved c =
    let bs = c.args.bytes.now in
    let n = c.args.boards in
    let x = c.loop-x.x in
    let i = c.loop-x.invariant in
    let line = c.in_ok-lines.ensures in
    let here : x < 16 = omega arith in
    let left : n - x ≡ suc (n - (x + 1)) = omega arith in
    let fields : first_illegal bs (lines_fields n x (n - x)) ≡ first_illegal bs (lines_fields n (x + 1) (n - (x + 1))) =
    ap (first_illegal bs) (lines_next n x (n - x) (n - (x + 1)) left) ∙ illegal_after bs (line_fields n x) (lines_fields n (x + 1) (n - (x + 1))) line.0 in (
      length-set c.loop-x.lines x _ ∙ i.0,
      rest_more bs n x c.loop-x.lines c.in_ok-lines.field-0 i.0 here i.1,
      sym fields ∙ i.2,
      legal_more bs n x c.loop-x.lines c.in_ok-lines.field-0 i.0 here i.3 line.1.0,
      text_more bs n x c.loop-x.lines c.in_ok-lines.field-0 i.0 here i.4 line.1.1,
    )
