use Rattle.std.proofs.Common.{◌≤◌}
use Rattle.planecho.proofs.read_front.Given as goal

abbrev pub invariant-loop : goal.invariant-loop
invariant-loop g l = l.len ≤ 810
