-- What the parts of a drawing say of its cells. Assumes nothing.
--     overlaid c         the overlay of the parts
--     IsCellOf o k v     v has cell k's first row and column, height, width, role and sender
use Rattle.std.specs.Prelude.{◌≡◌, ℕ, ◌-◌}
use Rattle.drawing_parts.specs.Parts.{over}
use Rattle.drawing_parts.specs.declared.cell.Cell.{Cell}
use Rattle.drawings.specs.declared.drawing.cells.Cells.{Cells}
use Rattle.overlays.specs.Overlays as overlays
use Rattle.overlays.specs.Overlays.{Overlay}

abbrev pub overlaid : Cells → Overlay
overlaid c = over c.operation c.target.now c.source.now c.rows.now c.columns.now

pub record IsCellOf (o : Overlay) (k : ℕ) (v : Cell) : Type 0 where
  pub top : v.top ≡ overlays.top o k
  pub left : v.left ≡ overlays.left o k
  pub height : v.height ≡ overlays.bottom o k - overlays.top o k
  pub width : v.width ≡ overlays.right o k - overlays.left o k
  pub role : v.role ≡ overlays.role o k
  pub sender : v.sender ≡ overlays.sender o k
