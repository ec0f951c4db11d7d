use Rattle.std.proofs.Common.{◌≡◌, ◌+◌, ◌-◌, slice_index_or, None, sym, ap, subst, arith}
use Rattle.assignment_costs.specs.Costs.{cost_at}
use Rattle.assignment_search.specs.Search.{val, count_of, rank_of, Relaxing}
use Rattle.assignment_search.proofs.Relaxing.{none_outside, some_inside, relaxing_skip, relaxing_offer}
use Rattle.assignment_search.proofs.search.Search.relax.Goals as goal
use Rattle.assignment_search.proofs.search.Search.relax.Goals.{then-is_none, else-is_none}

pub loop-y-preserved : goal.loop-y-preserved
loop-y-preserved c =
    let k = c.loop-y.y in
    let costs = c.args.self.now.costs.now in
    let prices = c.args.self.now.prices in
    let x = c.args.role in
    let same : rank_of c.loop-y.tree k ≡ rank_of c.args.tree.now k = ap (λ r. count_of (slice_index_or r k None)) c.loop-y.invariant.joined in
    elim c.if-is_none.branch [
      | then-is_none w ↦
          subst (λ s. Relaxing costs prices x c.args.base c.args.tree.now s (k + 1)) (sym w.tree-is)
          (relaxing_offer costs prices x c.args.base c.args.tree.now c.loop-y.tree k c.loop-y.invariant
          (c.args.base + cost_at costs x k + val prices.discounts k - val prices.roles x)
          w.offer.new.tree
          w.offer.ensures
          (omega (arith, same, none_outside (slice_index_or c.loop-y.tree.joined k None) c.is_none.result c.is_none.ensures w.if-is_none.true))
          (omega (arith, c.args.self.now.fair.feasible c.args.role k c.requires.role c.loop-y-test.true)))
      | else-is_none w ↦
          subst (λ s. Relaxing costs prices x c.args.base c.args.tree.now s (k + 1)) (sym w.tree-is)
          (relaxing_skip costs prices x c.args.base c.args.tree.now c.loop-y.tree k c.loop-y.invariant (omega (arith, same, some_inside (slice_index_or c.loop-y.tree.joined k None) c.is_none.result c.is_none.ensures w.if-is_none.false)))
    ]
