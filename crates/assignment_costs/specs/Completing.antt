-- What the rule of rows lets stand can be followed to the end of a legal list: by zeros. Assumes nothing.
use Rattle.std.specs.Prelude.{◌≡◌, ℕ, zero, suc, ◌+◌, ◌-◌, ◌*◌, ◌^◌, ◌<◌, ◌≤◌, true, ◌&&◌, Some, None, Option, refl}
use Rattle.std.proofs.Common.{eqb, leb, ltb, arith, replicate}
use Rattle.std.proofs.lemmas.Bool.{and_parts, and_from, eq-eqb, le-leb, ltb-true, lt-ltb}
use Rattle.wrong_lists.specs.Lists.{wrong_from, Completes}
use Rattle.assignment_costs.specs.Costs.{row_rule}

module _ (n : ℕ) where
  may_here : (k v : ℕ) (before : Option ℕ) → k < n * n → v ≤ 2 ^ 44 → row_rule n k before (Some v) ≡ true
  may_here k v before l m = and_from (ltb k (n * n)) (leb v (2 ^ 44)) (lt-ltb k (n * n) l) (le-leb v (2 ^ 44) m)

  zeros_end : (d k : ℕ) (before : Option ℕ) → k + d ≡ n * n → wrong_from (row_rule n) k before (replicate d 0) ≡ None
  zeros_end zero k before e = let t : eqb k (n * n) ≡ true = eq-eqb k (n * n) (omega arith) in rw t refl
  zeros_end (suc d) k before e =
      let t : (ltb k (n * n) && leb 0 (2 ^ 44)) ≡ true = may_here k 0 before (omega arith) (omega arith) in
      rw t (zeros_end d (k + 1) (Some 0) (omega arith))

  pub rows_complete : Completes (row_rule n)
  rows_complete k before x e =
      let l : k < n * n = ltb-true k (n * n) (and_parts (ltb k (n * n)) (leb x (2 ^ 44)) e).0 in
      (replicate (n * n - (k + 1)) 0, zeros_end (n * n - (k + 1)) (k + 1) (Some x) (omega arith))
