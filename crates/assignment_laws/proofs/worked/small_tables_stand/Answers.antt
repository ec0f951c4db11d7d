use Rattle.assignment_laws.proofs.SmallTables.{cheapest_first, exchange}
use Rattle.assignment_laws.proofs.worked.small_tables_stand.Goals as goal

pub returns-clause-cheapest_first : goal.returns-clause-cheapest_first
returns-clause-cheapest_first c = cheapest_first

pub returns-clause-exchange : goal.returns-clause-exchange
returns-clause-exchange c = exchange
