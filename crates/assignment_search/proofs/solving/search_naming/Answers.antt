use Rattle.std.proofs.Common.{refl}
use Rattle.assignment_search.proofs.Starting.{matched_first, fair_first}
use Rattle.assignment_search.proofs.solving.search_naming.Goals as goal

pub invariant_of-search-clause-matched : goal.invariant_of-search-clause-matched
invariant_of-search-clause-matched c = matched_first c.args.costs.now _ refl refl

pub invariant_of-search-clause-fair : goal.invariant_of-search-clause-fair
invariant_of-search-clause-fair c = fair_first c.args.costs.now _ refl refl
