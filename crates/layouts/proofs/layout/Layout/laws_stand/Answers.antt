use Rattle.layouts.proofs.Layouts.{laws}
use Rattle.layouts.proofs.layout.Layout.laws_stand.Goals as goal

pub returns-clause-laws : goal.returns-clause-laws
returns-clause-laws c = laws c.args.self.now
