use Rattle.drawings.proofs.Drawings.{laws}
use Rattle.drawings.proofs.drawing.Drawing.laws_stand.Goals as goal

pub returns-clause-laws : goal.returns-clause-laws
returns-clause-laws c = laws c.args.self.now
