use Rattle.worked.proofs.Numbers.{worked}
use Rattle.worked.proofs.laws.worked_example_stands.Goals as goal

pub returns-clause-worked : goal.returns-clause-worked
returns-clause-worked c = worked
