use Rattle.std.proofs.Common.{◌≡◌, ℕ, ◌<◌, Bool, None}
use Rattle.assignment_laws.specs.Judging.{first_below}
use Rattle.assignment.proofs.judging.check_roles.Given as goal

abbrev pub invariant-loop-role : goal.invariant-loop-role
invariant-loop-role g l =
    (t : ℕ → Bool) → ((x : ℕ) (b : Bool) → x < l.boards → goal.F-post g l.is_wrong x b → b ≡ t x) → first_below t l.role ≡ None
