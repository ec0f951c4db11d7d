use Rattle.std.proofs.Common.{refl}
use Rattle.runs.proofs.Once.{once, in_cells, cut_rows}
use Rattle.runs.proofs.laws.runs_stand.Goals as goal

pub returns : goal.returns
returns c = record { value = refl; once = once; cells = in_cells; rows = cut_rows }
