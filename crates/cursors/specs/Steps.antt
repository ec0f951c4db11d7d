-- What a step of a cursor finds. Assumes nothing.
--     left_at d m i c      the runs of sender i from the cursor c on
--     Whole c              from c on, all runs of each sender are left
--     run_of v             the run that v tells of
--     passes d w x         whether run x is wanted
--     NoneWanted           no run from the cursor on is wanted
--     run_at, advance      the run at a cursor in a cell, and the cursor right behind it
--     On                   the cursor stands on a piece of the cell
--     Found                v is the first wanted run from the cursor on, and the new cursor stands right behind it
use Rattle.std.specs.Prelude.{◌≡◌, ℕ, ◌+◌, ◌-◌, ◌*◌, ◌<◌, ◌≤◌, min, Bool, true, false, cond, List, ◌∷◌, ◌++◌, nat_lt}
use Rattle.std.specs.List.{AllByRecursion}
use Rattle.cursors.specs.Cursors.{admits, runs_from}
use Rattle.cursors.specs.declared.cursor.Cursor.{Cursor}
use Rattle.cursors.specs.declared.cursor.Run as found
use Rattle.cursors.specs.declared.cursor.Wanted.{Wanted}
use Rattle.drawings.specs.Drawings.{overlay_of, role_of}
use Rattle.drawing_parts.specs.declared.cell.Cell.{Cell}
use Rattle.drawings.specs.declared.drawing.Drawing.{Drawing}
use Rattle.runs.specs.Runs.{Run, pieces, runs_of}

abbrev pub left_at : Drawing → ℕ → ℕ → Cursor → List Run
left_at d m i c = runs_from (overlay_of d) m i c.cell c.row c.piece

-- from the cursor on, all runs of each sender of each drawing are left
abbrev pub Whole : Cursor → Type 0
Whole c = (d : Drawing) (m i : ℕ) → 1 ≤ m → left_at d m i c ≡ runs_of (overlay_of d) m i

abbrev pub run_of : found.Run → Run
run_of v = record { cell = v.cell; row = v.row; column = v.column; count = v.count }

abbrev pub passes : Drawing → Wanted → Run → Bool
passes d w x = admits w (role_of d x.cell)

abbrev pub NoneWanted : Drawing → ℕ → ℕ → Cursor → Wanted → Type 0
NoneWanted d m i c w = AllByRecursion (λ x. passes d w x ≡ false) (left_at d m i c)

pub record Found (d : Drawing) (m i : ℕ) (c : Cursor) (w : Wanted) (v : found.Run) (next : Cursor) : Type 0 where
  pub skipped : List Run
  pub split : left_at d m i c ≡ skipped ++ run_of v ∷ left_at d m i next
  pub unwanted : AllByRecursion (λ x. passes d w x ≡ false) skipped
  pub wanted : passes d w (run_of v) ≡ true
  pub role : v.role ≡ role_of d v.cell

-- the run at the cursor c in a cell, of at most m elements
abbrev pub run_at : Cell → ℕ → Cursor → found.Run
run_at x m c =
    record { cell = c.cell; row = x.top + c.row; column = x.left + c.piece * m; count = min m (x.width - c.piece * m); role = x.role }

-- the cursor right behind it: the next piece, or the next row, or the next cell
abbrev pub advance : Cell → ℕ → Cursor → Cursor
advance x m c =
    cond (nat_lt (c.piece + 1) (pieces x.width m)) (record { cell = c.cell; row = c.row; piece = c.piece + 1 })
    (cond (nat_lt (c.row + 1) x.height) (record { cell = c.cell; row = c.row + 1; piece = 0 })
    (record { cell = c.cell + 1; row = 0; piece = 0 }))

-- the cursor stands on a piece of the cell, which has a size that a matrix allows
pub record On (x : Cell) (m : ℕ) (c : Cursor) : Type 0 where
  pub most : (1 ≤ m) × (m ≤ 60)
  pub rows : x.top + x.height ≤ 1024
  pub columns : x.left + x.width ≤ 1024
  pub row : c.row < x.height
  pub piece : c.piece < pieces x.width m
  pub cell : c.cell < 3969
