-- What the rule of bounded lists lets stand can be followed to the end of a legal list, by zeros. Assumes nothing.
use Rattle.std.specs.Prelude.{◌≡◌, ℕ, zero, suc, ◌+◌, ◌-◌, true, ◌&&◌, List, [], ◌∷◌, Some, None, refl}
use Rattle.std.proofs.Common.{eqb, leb, ltb, arith}
use Rattle.std.proofs.lemmas.Bool.{and_from, and_parts, eq-eqb, le-leb, lt-ltb, ltb-true}
use Rattle.wrong_lists.specs.Lists.{wrong_from, Completes}
use Rattle.bounded_lists.specs.Lists.{bounded}

module _ (len : ℕ) (limit : ℕ → ℕ) where
  -- zeros complete every beginning
  zeros : (d k x : ℕ) → k + d ≡ len → (ys : List ℕ) × (wrong_from (bounded len limit) k (Some x) ys ≡ None)
  zeros zero k x e = let t : eqb k len ≡ true = eq-eqb k len (omega arith) in ([], rw t refl)
  zeros (suc d) k x e =
      let r = zeros d (k + 1) 0 (omega arith) in
      let t : (ltb k len && leb 0 (limit k)) ≡ true = and_from (ltb k len) (leb 0 (limit k)) (lt-ltb k len (omega arith)) (le-leb 0 (limit k) (omega arith)) in
      (0 ∷ r.0, rw t r.1)

  pub bounded_completes : Completes (bounded len limit)
  bounded_completes k before x t =
      zeros (len - (k + 1)) (k + 1) x (omega (arith, ltb-true k len (and_parts (ltb k len) (leb x (limit k)) t).0))
