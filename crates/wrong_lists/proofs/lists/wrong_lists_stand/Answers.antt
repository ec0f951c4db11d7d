use Rattle.wrong_lists.proofs.WrongLists.{wrong_lists}
use Rattle.wrong_lists.proofs.lists.wrong_lists_stand.Goals as goal

pub returns-clause-law : goal.returns-clause-law
returns-clause-law c = wrong_lists
