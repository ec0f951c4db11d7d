use Rattle.book.proofs.Least.{always_least}
use Rattle.book.proofs.laws.plans_stand.Goals as goal

pub returns-clause-least : goal.returns-clause-least
returns-clause-least g c = always_least g.E.Element.unit g.E.Element.width
