use Rattle.std.proofs.Common.{◌≡◌, ◌*◌, length, rules}
use Rattle.element_rows.specs.Rows.{words_of_row}
use Rattle.element_rows.proofs.RowsOfWords.{length-words_of_row}
use Rattle.element_rows.proofs.rows.pack.Goals as goal

pub returns-then-not-fits-clause-cases : goal.returns-then-not-fits-clause-cases
returns-then-not-fits-clause-cases g c =
    let due : length (words_of_row g.E.Element.words c.args.row.now) ≡ length c.args.row.now * g.E.Element.width =
    length-words_of_row g.E.Element.words g.E.Element.width g.met.E.Element.sized c.args.row.now
    in
    search rules

pub returns-then-not-fits-clause-due : goal.returns-then-not-fits-clause-due
returns-then-not-fits-clause-due g c = length-words_of_row g.E.Element.words g.E.Element.width g.met.E.Element.sized c.args.row.now
