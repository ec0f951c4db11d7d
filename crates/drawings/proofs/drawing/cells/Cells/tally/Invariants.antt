use Rattle.std.proofs.Common.{◌≡◌, ℕ, ◌+◌, ◌*◌, ◌<◌, length, get_or}
use Rattle.overlays.specs.Packages.{sum_below}
use Rattle.overlays.proofs.Packages.{slotted}
use Rattle.drawings.specs.Cells.{overlaid}
use Rattle.drawings.proofs.drawing.cells.Cells.tally.Given as goal

abbrev pub invariant-loop-i : goal.invariant-loop-i
invariant-loop-i l =
    (length l.packages ≡ 256)
    × ((p : ℕ) → p < 256 → get_or l.packages p 0 ≡ sum_below (l.i * l.self.columns.now.spans) (slotted (overlaid l.self) p))

abbrev pub invariant-loop-j : goal.invariant-loop-j
invariant-loop-j l =
    (length l.packages ≡ 256)
    × ((p : ℕ) → p < 256 → get_or l.packages p 0 ≡ sum_below (l.i * l.self.columns.now.spans + l.j) (slotted (overlaid l.self) p))
