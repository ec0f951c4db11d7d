-- When a question to a drawing is refused, and what is answered otherwise. Assumes nothing.
--     cell_refusal d k      a cell beyond the last
--     board_refusal d i j   a sender or else a role that is not below the number of boards
--     IsCover d k v         v has the blocks of the target and of the source that cell k lies in
--     IsCell d k v          v has cell k's first row and column, height, width, role and sender
use Rattle.std.specs.Prelude.{◌≡◌, ℕ, ◌-◌, cond, [], ◌∷◌, Some, None, Option, nat_lt}
use Rattle.drawing_parts.specs.declared.cell.Cell.{Cell}
use Rattle.drawings.specs.declared.drawing.Drawing.{Drawing}
use Rattle.drawings.specs.Drawings.{overlay_of, cells, cell_top, cell_bottom, cell_left, cell_right, target_block, source_block, role_of, sender_of, covers}
use Rattle.faults.specs.declared.cause.Cause.{Cause}
use Rattle.faults.specs.declared.cause.Cause.TheVariants.{Board, Beyond}
use Rattle.layouts.specs.Making.{topmost}
use Rattle.overlays.specs.Laws.{Lies}

abbrev pub cell_refusal : Drawing → ℕ → Option Cause
cell_refusal d k = cond (nat_lt k (cells d)) None (Some (Beyond 0))

abbrev pub board_cause : Drawing → ℕ → Option Cause
board_cause d p = cond (nat_lt p d.target.boards) None (Some (Board p))

abbrev pub board_refusal : Drawing → ℕ → ℕ → Option Cause
board_refusal d i j = topmost (board_cause d i ∷ board_cause d j ∷ [])

pub record IsCover (d : Drawing) (k t s : ℕ) : Type 0 where
  pub target : t ≡ target_block d k
  pub source : s ≡ source_block d k
  pub lies : (r c : ℕ) → covers d k r c → Lies (overlay_of d) k r c

pub record IsCell (d : Drawing) (k : ℕ) (v : Cell) : Type 0 where
  pub top : v.top ≡ cell_top d k
  pub left : v.left ≡ cell_left d k
  pub height : v.height ≡ cell_bottom d k - cell_top d k
  pub width : v.width ≡ cell_right d k - cell_left d k
  pub role : v.role ≡ role_of d k
  pub sender : v.sender ≡ sender_of d k
