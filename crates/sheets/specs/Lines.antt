-- The line of a plan of which nothing is said. Assumes nothing.
--     blank     board 0 and both prices 0
use Rattle.std.specs.Prelude.{pos}
use Rattle.sheets.specs.declared.line.Line.{Line}

abbrev pub blank : Line
blank = record { board = 0; u = pos 0; v = pos 0 }
