-- What a drawing says of its cells and packages. Assumes nothing.
--     overlay_of d            the overlay of the drawing's layouts
--     cells d                 the number of its cells, which are numbered row by row
--     cell_top d k, cell_bottom d k, cell_left d k, cell_right d k
--                             the first row of cell k and the one after its last, the first column and the one after its
--                             last, in the target
--     target_block d k, source_block d k
--                             the blocks of the target and of the source that cell k lies in
--     role_of d k, sender_of d k
--                             the owners of these blocks
--     covers d k r c          cell k has the target's element of row r and column c
--     package_of d i j        the number of elements that board i sends for role j
--     LawsOf d                each element of the target is in exactly one cell; each cell lies in its block of the target
--                             and, through the operation, in its block of the source, and in no other; a package has the
--                             elements of its cells; all packages together have the matrix's elements
use Rattle.std.specs.Prelude.{◌≡◌, ℕ, ◌*◌, ◌<◌}
use Rattle.drawings.specs.declared.drawing.Drawing.{Drawing}
use Rattle.drawing_parts.specs.Parts.{over, elements_of}
use Rattle.overlays.specs.Overlays as overlays
use Rattle.overlays.specs.Overlays.{Overlay, Holds, Joined}
use Rattle.overlays.specs.Laws.{Lies, part}
use Rattle.overlays.specs.Packages.{sum_below}

abbrev pub overlay_of : Drawing → Overlay
overlay_of d = over d.operation d.target d.source d.row_lines d.column_lines

abbrev pub cells : Drawing → ℕ
cells d = overlays.cells (overlay_of d)

abbrev pub cell_top : Drawing → ℕ → ℕ
cell_top d k = overlays.top (overlay_of d) k

abbrev pub cell_bottom : Drawing → ℕ → ℕ
cell_bottom d k = overlays.bottom (overlay_of d) k

abbrev pub cell_left : Drawing → ℕ → ℕ
cell_left d k = overlays.left (overlay_of d) k

abbrev pub cell_right : Drawing → ℕ → ℕ
cell_right d k = overlays.right (overlay_of d) k

abbrev pub target_block : Drawing → ℕ → ℕ
target_block d k = overlays.target_block (overlay_of d) k

abbrev pub source_block : Drawing → ℕ → ℕ
source_block d k = overlays.source_block (overlay_of d) k

abbrev pub role_of : Drawing → ℕ → ℕ
role_of d k = overlays.role (overlay_of d) k

abbrev pub sender_of : Drawing → ℕ → ℕ
sender_of d k = overlays.sender (overlay_of d) k

abbrev pub covers : Drawing → ℕ → ℕ → ℕ → Type 0
covers d k r c = Holds (overlay_of d) k r c

abbrev pub package_of : Drawing → ℕ → ℕ → ℕ
package_of d i j = elements_of d.operation d.target d.source i j

pub record LawsOf (d : Drawing) : Type 0 where
  pub joined : Joined d.target.boards d.target.rows d.target.columns (overlay_of d)
  pub tiled : (r c : ℕ) → r < d.target.rows → c < d.target.columns → (k : ℕ) × covers d k r c × ((m : ℕ) → covers d m r c → m ≡ k)
  pub inside : (k r c : ℕ) → covers d k r c → (r < d.target.rows) × (c < d.target.columns)
  pub lies : (k r c : ℕ) → covers d k r c → Lies (overlay_of d) k r c
  pub by_cells : (i j : ℕ) → package_of d i j ≡ sum_below (cells d) (part (overlay_of d) i j)
  pub adds_up : sum_below d.target.boards (λ i. sum_below d.target.boards (λ j. package_of d i j)) ≡ d.target.rows * d.target.columns
