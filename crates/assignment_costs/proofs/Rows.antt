-- Lists of costs, row by row: what the rule of their list says.
use Rattle.std.proofs.Common.{◌≡◌, ℕ, zero, suc, ◌+◌, ◌*◌, ◌^◌, ◌≤◌, ◌&&◌, eqb, ltb, leb, List, [], ◌∷◌, length, get_or, Some, None, Option, inl, inr, arith, sym}
use Rattle.std.proofs.lemmas.Bool.{cases_Bool, eqb-true, leb-true, and_parts}
use Rattle.wrong_lists.specs.Lists.{wrong_from}
use Rattle.std.proofs.lemmas.Option.{none-some}
use Rattle.assignment_costs.specs.Costs.{row_rule}

module _ (n : ℕ) where
  -- a list that is nowhere wrong is whole and within the limit
  pub whole : (xs : List ℕ) (k : ℕ) (before : Option ℕ) → wrong_from (row_rule n) k before xs ≡ None
      → (k + length xs ≡ n * n) × ((j : ℕ) → get_or xs j 0 ≤ 2 ^ 44)
  whole [] k before e =
      elim (cases_Bool (eqb k (n * n))) [
        | inl t ↦ (omega (arith, eqb-true k (n * n) t), λ j. omega arith)
        | inr f ↦ absurd (none-some k (sym (rw f at e)))
      ]
  whole (x ∷ xs) k before e =
      elim (cases_Bool (ltb k (n * n) && leb x (2 ^ 44))) [
        | inl t ↦
            (let r = whole xs (k + 1) (Some x) (rw t at e) in
            (omega (arith, r.0), later x xs (leb-true x (2 ^ 44) (and_parts (ltb k (n * n)) (leb x (2 ^ 44)) t).1) r.1))
        | inr f ↦ absurd (none-some k (sym (rw f at e)))
      ]
    where
      later : (x : ℕ) (xs : List ℕ) → x ≤ 2 ^ 44 → ((j : ℕ) → get_or xs j 0 ≤ 2 ^ 44) → (j : ℕ) → get_or (x ∷ xs) j 0 ≤ 2 ^ 44
      later x xs h r zero = h
      later x xs h r (suc j) = r j
