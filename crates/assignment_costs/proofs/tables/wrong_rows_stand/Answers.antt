use Rattle.wrong_lists.proofs.WrongLists.{wrong_lists}
use Rattle.assignment_costs.specs.Costs.{row_rule}
use Rattle.assignment_costs.specs.Completing.{rows_complete}
use Rattle.assignment_costs.proofs.tables.wrong_rows_stand.Goals as goal

pub returns-clause-law : goal.returns-clause-law
returns-clause-law c = λ n costs i e. wrong_lists (row_rule n) (rows_complete n) costs i e
