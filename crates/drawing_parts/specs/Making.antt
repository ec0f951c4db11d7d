-- What is made of parts that are not refused. Assumes nothing.
--     AreParts letter a b s t p    p has the operation that the letter names, the source fits the target, the shares suffice,
--                            and p's lines rule the target's rows and columns
use Rattle.std.specs.Prelude.{◌≡◌, ℕ, Some}
use Rattle.drawing_parts.specs.declared.parts.Parts.{Parts}
use Rattle.drawing_parts.specs.Parts.{Fits, Ruled, WithinShare, source_rows, source_columns}
use Rattle.drawing_parts.specs.Refusals.{operation_of}
use Rattle.layouts.specs.declared.layout.Layout.{Layout}
use Rattle.layouts.specs.Layouts.{row_cuts, column_cuts}

pub record AreParts (letter : ℕ) (a b : Layout) (s t : ℕ) (p : Parts) : Type 0 where
  pub named : operation_of letter ≡ Some p.operation
  pub fits : Fits p.operation a b
  pub lent : WithinShare b s
  pub kept : WithinShare a t
  pub row_side : Ruled a.rows (row_cuts a) (source_rows p.operation b) p.row_lines
  pub column_side : Ruled a.columns (column_cuts a) (source_columns p.operation b) p.column_lines
