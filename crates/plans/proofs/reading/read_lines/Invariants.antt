use Rattle.std.proofs.Common.{◌≡◌, ℕ, ◌-◌, ◌*◌, ◌<◌, ◌≤◌, length, get_or, take}
use Rattle.sheets.specs.Lines.{blank}
use Rattle.sheets.specs.Sheet.{first_illegal, lines_fields, lines_text, LegalLine, part}
use Rattle.plans.proofs.reading.read_lines.Given as goal

abbrev pub invariant-loop-x : goal.invariant-loop-x
invariant-loop-x l =
    (length l.lines ≡ 16)
    × ((k : ℕ) → l.x ≤ k → get_or l.lines k blank ≡ blank)
    × (first_illegal l.bytes (lines_fields l.boards l.x (l.boards - l.x)) ≡ first_illegal l.bytes (lines_fields l.boards 0 l.boards))
    × ((k : ℕ) → k < l.x → LegalLine l.boards (get_or l.lines k blank))
    × (part l.bytes 25 (49 * l.x) ≡ lines_text 0 (take l.x l.lines))
