-- Lists of bounded numbers: what a legal list is, and that every beginning can be completed.
use Rattle.std.proofs.Common.{◌≡◌, ℕ, zero, suc, ◌+◌, ◌≤◌, Bool, true, false, cond, ◌&&◌, eqb, ltb, leb, List, [], ◌∷◌, length, get_or, Some, None, Option, sym, refl, subst, add-zero, zero-add, arith}
use Rattle.std.proofs.lemmas.Bool.{and_parts, leb-true, eqb-true}
use Rattle.faults.proofs.WrongLists.{wrong_lists}
use Rattle.faults.specs.Lists.{wrong_from, first_wrong}
use Rattle.bounded_lists.specs.Completing.{bounded_completes}
use Rattle.bounded_lists.specs.Lists.{bounded, BoundedLists}

module _ (len : ℕ) (limit : ℕ → ℕ) where
  kept : (b : Bool) (o : Option ℕ) (k : ℕ) → cond b o (Some k) ≡ None → (b ≡ true) × (o ≡ None)
  kept true o k e = (refl, e)
  kept false o k e = let z : ◌≡◌ {A = ℕ} 0 1 = cc in absurd (omega arith)

  entries : (k x : ℕ) (xs : List ℕ) → x ≤ limit k → ((i : ℕ) → get_or xs i 0 ≤ limit (k + 1 + i)) → (i : ℕ) → get_or (x ∷ xs) i 0 ≤ limit (k + i)
  entries k x xs h r zero = subst (λ j. x ≤ limit j) (sym (add-zero k)) h
  entries k x xs h r (suc i) = let e : k + 1 + i ≡ k + suc i = omega arith in subst (λ j. get_or xs i 0 ≤ limit j) e (r i)

  -- a list without a wrong index has its length, and each entry is within its limit
  legal_from : (xs : List ℕ) (k : ℕ) (before : Option ℕ) → wrong_from (bounded len limit) k before xs ≡ None
      → (k + length xs ≡ len) × ((i : ℕ) → get_or xs i 0 ≤ limit (k + i))
  legal_from [] k before e = (omega (arith, eqb-true k len (kept (eqb k len) None k e).0), λ i. omega arith)
  legal_from (x ∷ xs) k before e =
      let t = kept (ltb k len && leb x (limit k)) (wrong_from (bounded len limit) (k + 1) (Some x) xs) k e in
      let x_Fits = leb-true x (limit k) (and_parts (ltb k len) (leb x (limit k)) t.0).1 in
      let rest = legal_from xs (k + 1) (Some x) t.1 in
      (omega (arith, rest.0), entries k x xs x_Fits rest.1)

  pub legal_list : (xs : List ℕ) → first_wrong (bounded len limit) xs ≡ None → (length xs ≡ len) × ((i : ℕ) → get_or xs i 0 ≤ limit i)
  legal_list xs e =
      let l = legal_from xs 0 None e in
      (omega (arith, l.0), λ i. subst (λ k. get_or xs i 0 ≤ limit k) (zero-add i) (l.1 i))

pub bounded_lists : BoundedLists
bounded_lists len limit = (bounded_completes len limit, wrong_lists (bounded len limit) (bounded_completes len limit))
