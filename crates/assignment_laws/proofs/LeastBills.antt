-- The law of least bills.
use Rattle.std.proofs.Common.{◌≡◌, ◌+◌, ◌≤◌, arith}
use Rattle.assignment_laws.specs.Namings.{total, LeastBills}
use Rattle.assignment_laws.proofs.Totals.{total_same, total_le, total_add, total_permuted}

pub least_bills : LeastBills
least_bills cost n u w σ f p t τ q =
    let mine : total u n ≡ total (λ x. cost x (σ x) + w (σ x)) n = total_same u (λ x. cost x (σ x) + w (σ x)) n t in
    let other : total u n ≤ total (λ x. cost x (τ x) + w (τ x)) n = total_le u (λ x. cost x (τ x) + w (τ x)) n (λ x l. f x (τ x) l (q.below x l)) in
    omega (
      arith,
      mine,
      other,
      total_add (λ x. cost x (σ x)) (λ x. w (σ x)) n,
      total_add (λ x. cost x (τ x)) (λ x. w (τ x)) n,
      total_permuted n w σ p,
      total_permuted n w τ q,
    )
