-- The steps of relaxing: a board of the tree is passed by, and one outside it is offered a way.
use Rattle.std.proofs.Common.{◌≡◌, ℕ, ◌+◌, ◌<◌, Bool, true, false, not, Some, None, Option, refl, ◌∙◌, inl, inr, arith, below_more}
use Rattle.std.specs.Option.{is_some}
use Rattle.std.proofs.lemmas.Bool.{both_ways}
use Rattle.assignment_costs.specs.declared.costs.Costs.{Costs}
use Rattle.assignment_search.specs.declared.tree.Prices.{Prices}
use Rattle.assignment_search.specs.declared.tree.Tree.{Tree}
use Rattle.assignment_costs.specs.Costs.{cost_at}
use Rattle.assignment_search.specs.Search.{val, count_of, rank_of, Offered, Better, Relaxing}

-- what the test for a step says of a board's rank
pub none_outside : (o : Option ℕ) (b : Bool) → is_some o ≡ not b → b ≡ true → count_of o ≡ 0
none_outside None b e t = refl
none_outside (Some k) b e t = let f : true ≡ false = rw t at e in absurd (both_ways true f refl)

pub some_inside : (o : Option ℕ) (b : Bool) → is_some o ≡ not b → b ≡ false → 0 < count_of o
some_inside None b e f = let t : false ≡ true = rw f at e in absurd (both_ways false refl t)
some_inside (Some k) b e f = omega arith

module _ (c : Costs) (p : Prices) (x d : ℕ) (t s : Tree) (k : ℕ) (v : Relaxing c p x d t s k) where
  pub relaxing_skip : 0 < rank_of t k → Relaxing c p x d t s (k + 1)
  relaxing_skip h =
      record {
        joined = v.joined;
        seen =
            below_more (Better c p x d t s) k v.seen (record { inside = λ _. v.unseen k (omega arith); outside = λ z. absurd (omega arith) });
        unseen = λ y l. v.unseen y (omega arith);
      }

  module _ (r : ℕ) (s' : Tree) (o : Offered s k x r s') (z : rank_of t k ≡ 0) (e : r + val p.roles x ≡ d + cost_at c x k + val p.discounts k) where
    kept : (y : ℕ) → y < k → Better c p x d t s' y
    kept y l =
        let q = o.others y (λ m. omega arith) in
        let b = v.seen y l in
        record {
          inside = λ h. (q.0 ∙ (b.inside h).0, q.1 ∙ (b.inside h).1);
          outside = λ h.
              elim (b.outside h) [
                | inl g ↦ inl (q.1 ∙ g.0, omega (arith, g.1, q.0), omega (arith, g.2, q.0))
                | inr g ↦ inr (q.1 ∙ g.0, q.0 ∙ g.1, g.2)
              ];
        }

    offered : Better c p x d t s' k
    offered =
        let u = v.unseen k (omega arith) in
        record {
          inside = λ h. absurd (omega arith);
          outside = λ h.
              elim o.here [
                | inl g ↦ inl (g.0, omega (arith, g.1, e), omega (arith, g.1, g.2, u.0))
                | inr g ↦ inr (g.0 ∙ u.1, g.1 ∙ u.0, omega (arith, g.2, u.0, e))
              ];
        }

    pub relaxing_offer : Relaxing c p x d t s' (k + 1)
    relaxing_offer =
        record {
          joined = o.joined ∙ v.joined;
          seen = below_more (Better c p x d t s') k kept offered;
          unseen = λ y l.
              let q = o.others y (λ m. omega arith) in
              let u = v.unseen y (omega arith) in
              (q.0 ∙ u.0, q.1 ∙ u.1);
        }
