-- What the checks of roles say of the names that they let pass.
use Rattle.std.proofs.Common.{◌≡◌, ℕ, zero, suc, ◌≤◌, Bool, ◌||◌, List, length, get_or, take, refl, ap, ◌∙◌, add-one, arith}
use Rattle.std.specs.List.{list_any}
use Rattle.std.proofs.Math.Bool.{or_comm}
use Rattle.std.proofs.lemmas.List.Folds.{list_any_more}
use Rattle.assignment_laws.specs.Judging.{any_below}

-- a test of the first elements of a list is one of the indices below
pub any_taken : (f : ℕ → Bool) (xs : List ℕ) (n : ℕ) → n ≤ length xs → list_any f (take n xs) ≡ any_below (λ k. f (get_or xs k 0)) n
any_taken f xs zero l = refl
any_taken f xs (suc n) l =
    let more = list_any_more f xs n 0 (omega arith) in
    (rw add-one at more) ∙ or_comm (list_any f (take n xs)) (f (get_or xs n 0)) ∙ ap (λ b. f (get_or xs n 0) || b) (any_taken f xs n (omega arith))
