use Rattle.std.proofs.Common.{◌≡◌, ◌++◌, drop}
use Rattle.element_rows.specs.Rows.{row_of_words}
use Rattle.element_rows.proofs.rows.read_row.Given as goal

abbrev pub invariant-loop-k : goal.invariant-loop-k
invariant-loop-k g l = l.row ≡ row_of_words g.E.Element.back g.E.Element.width l.k l.from ++ drop l.k l.initial.row
