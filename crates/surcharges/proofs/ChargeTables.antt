-- The table of a list of charges has its length, and its charges are within their limit.
use Rattle.std.proofs.Common.{◌≡◌, ℕ, zero, suc, ◌≤◌, List, [], ◌∷◌, ◌++◌, length, get_or, drop, replicate, None, sym, refl, ap, ◌∙◌, ltb, arith, length-append}
use lib.ListN.{length-replicate}
use Rattle.std.proofs.lemmas.List.{drop-replicate}
use Rattle.std.proofs.lemmas.Bool.{cond_both}
use Rattle.bounded_lists.proofs.BoundedLists.{legal_list}
use Rattle.bounded_lists.proofs.Refusals.{list_kept}
use Rattle.bounded_lists.specs.Lists.{bounded, limits, list_refusal}
use Rattle.surcharges.specs.Surcharges.{charge_rule, charge_table, highest_charge}

-- where all have one limit, it does not matter which are the first
pub one_limit : (n : ℕ) (xs : List ℕ) → list_refusal (bounded n (limits n highest_charge highest_charge)) xs ≡ None → list_refusal (charge_rule n) xs ≡ None
one_limit n xs e =
    let same : limits n highest_charge highest_charge ≡ (λ _. highest_charge) =
    λ i k. cond_both (ltb k n) highest_charge highest_charge (λ v. v ≡ highest_charge) (λ _. refl) (λ _. refl) i in
    ap (λ l. list_refusal (bounded n l) xs) (sym same) ∙ e

pub charges_kept : (n : ℕ) (xs : List ℕ) → list_refusal (charge_rule n) xs ≡ None → (length xs ≡ n) × ((k : ℕ) → get_or xs k 0 ≤ highest_charge)
charges_kept n xs e = legal_list n (λ _. highest_charge) xs (list_kept (charge_rule n) xs e)

pub length-charge_table : (xs : List ℕ) → length xs ≤ 16 → length (charge_table (length xs) xs) ≡ 16
length-charge_table xs h = simp (length-append, length-replicate) (omega arith)

zeros_bound : (n k : ℕ) → get_or (replicate n 0) k 0 ≤ highest_charge
zeros_bound zero k = omega arith
zeros_bound (suc n) zero = omega arith
zeros_bound (suc n) (suc k) = zeros_bound n k

pub append_bound : (xs : List ℕ) (n : ℕ) → ((k : ℕ) → get_or xs k 0 ≤ highest_charge) → (k : ℕ) → get_or (xs ++ replicate n 0) k 0 ≤ highest_charge
append_bound [] n h k = zeros_bound n k
append_bound (x ∷ xs) n h zero = h 0
append_bound (x ∷ xs) n h (suc k) = append_bound xs n (λ i. h (suc i)) k

pub table_from : (xs : List ℕ) (n : ℕ) → xs ++ drop n (replicate 16 0) ≡ charge_table n xs
table_from xs n = ap (λ t. xs ++ t) (drop-replicate n 16 0)
