use Rattle.std.proofs.Common.{◌+◌}
use Rattle.assignment_search.specs.Trees.{Grown, unused}
use Rattle.assignment_search.proofs.search.Search.grow.Given as goal

abbrev pub invariant-loop-end : goal.invariant-loop-end
invariant-loop-end l = Grown l.self.costs.now l.self.prices l.self.matching l.self.placed l.tree l.end (l.step + 1)

abbrev pub decreases-loop-end : goal.decreases-loop-end
decreases-loop-end l = unused l.tree l.self.costs.now.boards
