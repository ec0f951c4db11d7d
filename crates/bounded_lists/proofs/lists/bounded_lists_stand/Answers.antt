use Rattle.bounded_lists.proofs.BoundedLists.{bounded_lists}
use Rattle.bounded_lists.proofs.lists.bounded_lists_stand.Goals as goal

pub returns-clause-law : goal.returns-clause-law
returns-clause-law c = bounded_lists
