use Rattle.std.proofs.Common.{◌+◌, ◌*◌, refl, arith}
use Rattle.std.proofs.lemmas.Bool.Decides.{nat_tests}
use Rattle.assignment_costs.proofs.Zeros.{getD_zeros}
use Rattle.assignment_costs.proofs.tables.free_costs.Goals as goal

pub invariant_of-result : goal.invariant_of-result
invariant_of-result c = record { some = c.in_ok-check_count.ensures.1.0; most = c.in_ok-check_count.ensures.1.1; sized = refl; capped = λ k. omega (arith, getD_zeros 256 k) }

pub returns : goal.returns
returns c = (grind (arith, nat_tests), record { count = refl; entries = λ x y. getD_zeros 256 (x * 16 + y) })
