use Rattle.std.proofs.Common.{◌+◌, ◌*◌, refl, inl, inr, arith}
use Rattle.std.proofs.lemmas.Bool.{cases_eq}
use Rattle.assignment_costs.proofs.Zeros.{getD_zeros}
use Rattle.assignment_costs.proofs.tables.spread.Goals as goal

pub loop-x-init : goal.loop-x-init
loop-x-init c = (refl, (λ k. omega (arith, getD_zeros 256 k)), (λ a b l m. absurd (omega arith)), λ a b l o. getD_zeros 256 (a * 16 + b))

pub loop-x-preserved : goal.loop-x-preserved
loop-x-preserved c = (
  c.loop-y.invariant.0,
  c.loop-y.invariant.1,
  λ a b l m.
      elim (cases_eq a c.loop-x.x) [
        | inl e ↦ rw e (c.loop-y.invariant.3 b (omega arith))
        | inr d ↦ c.loop-y.invariant.2 a b (omega arith) m
      ],
  c.loop-y.invariant.4,
)
