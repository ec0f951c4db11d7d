use Rattle.std.proofs.Common.{◌+◌, Some, sym, ap, ◌∙◌, subst, arith, w64, SFits, to_z, of_z, rules}
use Rattle.std.proofs.lemmas.Int.{to_z-of_z}
use Rattle.sheets.specs.Sheet.{part, price_low, price_high, sheet_length}
use Rattle.sheets.specs.Text.{Reads}
use Rattle.sheets.specs.declared.line.Line.{Line}
use Rattle.sheets.proofs.LineFields.{line_stands, line_reads, line_legal}
use Rattle.plans.proofs.reading.read_line.Goals as goal

pub returns : goal.returns
returns c =
    let bs = c.args.bytes.now in
    let n = c.args.boards in
    let x = c.args.x in
    let number = rw c.in_ok-ok_or.ensures.ok_part at c.small.ensures.value in
    let number_is = rw c.in_ok-ok_or.ensures.ok_part at c.small.ensures.found in
    let board = rw c.in_ok-board.ensures.ok_part at c.small-2.ensures.value in
    let board_is = rw c.in_ok-board.ensures.ok_part at c.small-2.ensures.found in
    let third = rw c.in_ok-u.ensures.ok_part at c.wide.ensures.value in
    let third_is = rw c.in_ok-u.ensures.ok_part at c.wide.ensures.found in
    let fourth = rw c.in_ok-v.ensures.ok_part at c.wide-2.ensures.value in
    let fourth_is = rw c.in_ok-v.ensures.ok_part at c.wide-2.ensures.found in
    let u_fits : SFits w64 c.in_ok-u.u = search rules in
    let v_fits : SFits w64 c.in_ok-v.v = search rules in
    let u_is = to_z-of_z w64 c.in_ok-u.u u_fits in
    let v_is = to_z-of_z w64 c.in_ok-v.v v_fits in
    let l : Line = record { board = c.in_ok-board.board; u = to_z w64 (of_z w64 c.in_ok-u.u); v = to_z w64 (of_z w64 c.in_ok-v.v) } in
    let u_reads : Reads 20 price_low price_high (part bs (sheet_length x + 8) 20) l.u = subst (Reads 20 price_low price_high (part bs (sheet_length x + 8) 20)) (sym u_is) third_is in
    let v_reads : Reads 20 price_low price_high (part bs (sheet_length x + 28) 20) l.v = subst (Reads 20 price_low price_high (part bs (sheet_length x + 28) 20)) (sym v_is) fourth_is in
    let u_value = ap Some u_is ∙ third in
    let v_value = ap Some v_is ∙ fourth in
    let ends = c.if-not-line_ends.ensures in (
      line_stands bs n x l c.in_ok-ok_or.field-0 number board u_value v_value ends,
      (
        line_legal bs n x l c.in_ok-ok_or.field-0 number board u_value v_value ends (omega arith) board_is.1 u_reads v_reads,
        line_reads bs n x l c.in_ok-ok_or.field-0 number board u_value v_value ends number_is.0 number_is.1 number_is.2 board_is.2 u_reads v_reads,
      ),
    )
