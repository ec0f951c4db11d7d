use Rattle.std.proofs.Common.{◌≡◌, ◌+◌, ◌*◌, ◌<◌, [], refl, subst, arith}
use lib.Seq.{paste}
use Rattle.std.proofs.lemmas.List.{get_or-take, length-take-le}
use Rattle.std.proofs.lemmas.List.Edits.{paste_none}
use Rattle.sheets.specs.Lines.{blank}
use Rattle.sheets.specs.Sheet.{line_text}
use Rattle.sheets.proofs.Pasting.{lines_put}
use Rattle.plans.proofs.writing.put_lines.Goals as goal

pub loop-x-init : goal.loop-x-init
loop-x-init c = (paste_none c.args.buffer.now 25 [], refl)

pub loop-x-preserved : goal.loop-x-preserved
loop-x-preserved c =
    let p = c.args.plan.now in
    let x = c.loop-x.x in
    let legal = c.requires.0 in
    let here : x < p.boards = omega (arith, c.loop-x-test.true, length-take-le p.boards p.lines (omega (arith, legal.few, p.sized))) in
    let put = subst (λ l. c.put_line.new.buffer ≡ paste c.loop-x.buffer (25 + 49 * x) (line_text x l) 49) (get_or-take p.boards p.lines x blank here) c.put_line.ensures in
    lines_put c.args.buffer.now c.loop-x.buffer c.put_line.new.buffer p.boards x p.lines (omega arith) here legal.few
    p.sized (legal.lines x here) c.loop-x.invariant.0 c.loop-x.invariant.1 put
