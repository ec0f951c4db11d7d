use Rattle.std.proofs.Common.{◌≡◌, ◌*◌, ◌++◌, take, drop}
use Rattle.element_rows.specs.Rows.{words_of_row}
use Rattle.element_rows.proofs.rows.write_row.Given as goal

abbrev pub invariant-loop-k : goal.invariant-loop-k
invariant-loop-k g l = l.into ≡ words_of_row g.E.Element.words (take l.k l.row) ++ drop (l.k * g.E.Element.width) l.initial.into
