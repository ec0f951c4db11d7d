use Rattle.std.proofs.Common.{length}
use Rattle.buses.proofs.Searched.{Passed}
use Rattle.buses.proofs.entries.find.Given as goal

abbrev pub invariant-loop-rest : goal.invariant-loop-rest
invariant-loop-rest l = Passed l.board l.words l.rest

abbrev pub decreases-loop-rest : goal.decreases-loop-rest
decreases-loop-rest l = length l.rest
