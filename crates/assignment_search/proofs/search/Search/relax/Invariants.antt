use Rattle.assignment_search.specs.Search.{Relaxing}
use Rattle.assignment_search.proofs.search.Search.relax.Given as goal

abbrev pub invariant-loop-y : goal.invariant-loop-y
invariant-loop-y l = Relaxing l.self.costs.now l.self.prices l.role l.base l.initial.tree l.tree l.y
