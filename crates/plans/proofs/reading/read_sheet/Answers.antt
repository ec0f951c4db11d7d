use Rattle.std.proofs.Common.{◌≤◌, nat_abs, sym, subst, arith, w64, to_z, of_z}
use Rattle.std.proofs.lemmas.Result.{err_from_is_err_and}
use Rattle.sheets.specs.Sheet.{LegalLine}
use Rattle.plans.specs.Plans.{line_of}
use Rattle.plans.specs.Sheet.{Legal}
use Rattle.sheets.proofs.SheetRead.{lines_fail, rest_fails, all_stand, bill_natural}
use Rattle.plans.proofs.SheetRead.{bytes_are}
use Rattle.plans.proofs.reading.read_sheet.Goals as goal

pub returns-in_err-plan : goal.returns-in_err-plan
returns-in_err-plan c =
    let count = rw c.in_ok-boards.ensures.ok_part at c.small.ensures.value in
    let bill = rw c.in_ok-bill.ensures.ok_part at c.wide.ensures.value in
    let p = err_from_is_err_and c.from_residual-in_err-plan.result c.from_residual-in_err-plan.ensures.1 in
    rw (p.1, p.2) (lines_fail c.args.bytes.now c.in_ok-boards.boards count c.in_ok-bill.bill bill c.if-not-line_ends.ensures c.in_err-plan.field-0.0 c.in_err-plan.ensures)

pub returns-then-bytes-boards : goal.returns-then-bytes-boards
returns-then-bytes-boards c =
    let count = rw c.in_ok-boards.ensures.ok_part at c.small.ensures.value in
    let bill = rw c.in_ok-bill.ensures.ok_part at c.wide.ensures.value in
    rest_fails c.args.bytes.now c.in_ok-boards.boards count c.in_ok-bill.bill bill c.if-not-line_ends.ensures c.in_ok-plan.ensures.1.none c.if-bytes-boards.true

pub returns : goal.returns
returns c =
    let bs = c.args.bytes.now in
    let n = c.in_ok-boards.boards in
    let z = c.in_ok-bill.bill in
    let p = c.in_ok-plan.plan in
    let count = rw c.in_ok-boards.ensures.ok_part at c.small.ensures.value in
    let count_is = rw c.in_ok-boards.ensures.ok_part at c.small.ensures.found in
    let bill = rw c.in_ok-bill.ensures.ok_part at c.wide.ensures.value in
    let bill_is = rw c.in_ok-bill.ensures.ok_part at c.wide.ensures.found in
    let ends = c.if-not-line_ends.ensures in
    let lines = c.in_ok-plan.ensures.1 in
    let natural = bill_natural z bill_is.low bill_is.high in
    let some : 1 ≤ p.boards = omega (arith, lines.boards, count_is.0) in
    let few : p.boards ≤ 16 = omega (arith, lines.boards, count_is.1) in
    let legal : Legal p = record {
      some = some;
      few = few;
      bill = omega (arith, lines.bill, natural.1);
      lines = λ x h. subst (λ m. LegalLine m (line_of p x)) (sym lines.boards) (lines.legal x (omega (arith, lines.boards, h)));
    } in (
      all_stand bs n count z bill ends lines.none c.if-bytes-boards.false,
      record { legal = legal; is = bytes_are bs n z ends (nat_abs (to_z w64 (of_z w64 z))) p natural.0 count_is.2 bill_is.is lines c.if-bytes-boards.false },
    )
