use Rattle.std.proofs.Common.{eqb, leb, rules}
use Rattle.std.proofs.lemmas.Bool.{or_parts, leb-false}
use Rattle.assignment_laws.specs.Judging.{any_below, misnamed}
use Rattle.assignment_search.specs.Search.{val}
use Rattle.assignment_laws.proofs.Verdicts.{first_none}
use Rattle.assignment.proofs.judging.checked_bill.Goals as goal

pub sum_of-requires : goal.sum_of-requires
sum_of-requires c x l =
    let n = c.args.costs.now.boards in
    let σ = val c.args.naming.now in
    let named = (c.in_ok-check_roles.ensures (misnamed n σ) (λ y b m p. search rules)).1 in
    leb-false n (σ x) (or_parts (leb n (σ x)) (any_below (λ k. eqb (σ k) (σ x)) x) (first_none (misnamed n σ) n named x l)).0
