use Rattle.std.proofs.Common.{◌≡◌, ◌*◌, length, take}
use lib.Seq.{paste}
use Rattle.sheets.specs.Sheet.{lines_text}
use Rattle.plans.proofs.writing.put_lines.Given as goal

abbrev pub invariant-loop-x : goal.invariant-loop-x
invariant-loop-x l =
    (l.buffer ≡ paste l.initial.buffer 25 (lines_text 0 (take l.x l.plan.lines)) (49 * l.x))
    × (49 * l.x ≡ length (lines_text 0 (take l.x l.plan.lines)))
