use Rattle.std.proofs.Common.{◌≡◌}
use Rattle.assignment_search.proofs.solving.search_naming.Given as goal

abbrev pub invariant-loop : goal.invariant-loop
invariant-loop l = (l.search.costs.now ≡ l.costs) × (l.search.placed ≡ l.counter)
