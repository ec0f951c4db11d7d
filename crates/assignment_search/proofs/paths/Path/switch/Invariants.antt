use Rattle.std.proofs.Common.{◌≡◌}
use Rattle.assignment_search.specs.Paths.{Switching}
use Rattle.assignment_search.specs.Search.{val, rank_of, IsBelow}
use Rattle.assignment_search.proofs.paths.Path.switch.Given as goal

abbrev pub invariant-loop-role : goal.invariant-loop-role
invariant-loop-role l =
    Switching l.costs.boards l.initial.matching l.root l.self.tree l.matching l.board
    × (l.role ≡ val l.self.tree.way l.board)
    × IsBelow l.matching.owner
    × IsBelow l.matching.naming

abbrev pub decreases-loop-role : goal.decreases-loop-role
decreases-loop-role l = rank_of l.self.tree l.board
