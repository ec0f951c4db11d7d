use Rattle.std.proofs.Common.{◌+◌, ◌≤◌, length}
use Rattle.jobs.proofs.parsing.parse.Given as goal

-- A line has at least one byte.
abbrev pub invariant-loop-rest : goal.invariant-loop-rest
invariant-loop-rest l = l.line.number + length l.rest ≤ length l.initial.rest + 1

abbrev pub decreases-loop-rest : goal.decreases-loop-rest
decreases-loop-rest l = length l.rest
