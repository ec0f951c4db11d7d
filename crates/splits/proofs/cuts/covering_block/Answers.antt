use Rattle.splits.proofs.Covering.{covered}
use Rattle.splits.proofs.cuts.covering_block.Goals as goal

pub returns-clause-law : goal.returns-clause-law
returns-clause-law c = covered
