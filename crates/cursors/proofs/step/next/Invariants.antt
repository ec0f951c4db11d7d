use Rattle.std.proofs.Common.{◌≡◌, ◌-◌, false, List, ◌++◌}
use Rattle.std.specs.List.{AllByRecursion}
use Rattle.cursors.specs.Cursors.{bounded}
use Rattle.cursors.specs.Steps.{left_at, passes}
use Rattle.drawings.specs.Drawings.{cells}
use Rattle.runs.specs.Runs.{Run}
use Rattle.cursors.proofs.step.next.Given as goal

-- the runs that were passed over are not wanted
abbrev pub invariant-loop-cell : goal.invariant-loop-cell
invariant-loop-cell l =
    (skipped : List Run)
    × (left_at l.drawing (bounded l.longest) l.sender l.initial.at ≡ skipped ++ left_at l.drawing (bounded l.longest) l.sender l.at)
    × AllByRecursion (λ x. passes l.drawing l.wanted x ≡ false) skipped

abbrev pub decreases-loop-cell : goal.decreases-loop-cell
decreases-loop-cell l = cells l.drawing - l.at.cell
