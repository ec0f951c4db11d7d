use Rattle.std.proofs.Common.{◌+◌, ◌≤◌, unwrap_or, ap, arith}
use Rattle.assignment_search.specs.Search.{mate}
use Rattle.assignment_search.proofs.Growing.{grown_first, grown_more, low_more, partial_more, rooted_last, held_last}
use Rattle.assignment_search.proofs.search.Search.grow.Goals as goal

pub loop-end-init : goal.loop-end-init
loop-end-init c =
    grown_first c.args.self.now.costs.now c.args.self.now.prices c.args.self.now.matching c.args.self.now.placed c.plant-tree.result c.plant-tree.ensures
    c.nearest-end.result
    c.nearest-end.ensures

pub nearest-end-requires-in-Some : goal.nearest-end-requires-in-Some
nearest-end-requires-in-Some c =
    record {
      most = omega (arith, c.args.self.now.costs.now.most);
      low =
          low_more c.args.self.now.costs.now c.args.self.now.prices c.args.self.now.matching c.args.self.now.placed c.args.self.now.matched c.args.self.now.fair c.loop-end.tree
          c.loop-end.end
          (c.loop-end.step + 1)
          c.loop-end.invariant
          c.join.new.tree
          c.join.ensures
          c.in-Some.role
          c.in-Some.is
          c.args.self.now.owners_below
          c.relax.new.tree
          c.relax.ensures;
      outside =
          partial_more c.args.self.now.costs.now c.args.self.now.prices c.args.self.now.matching c.args.self.now.placed c.args.self.now.matched c.args.self.now.fair c.loop-end.tree
          c.loop-end.end
          (c.loop-end.step + 1)
          c.loop-end.invariant
          c.join.new.tree
          c.join.ensures
          c.in-Some.role
          c.in-Some.is
          c.args.self.now.owners_below
          c.relax.new.tree
          c.relax.ensures
          c.requires;
    }

pub loop-end-preserved : goal.loop-end-preserved
loop-end-preserved c =
    grown_more c.args.self.now.costs.now c.args.self.now.prices c.args.self.now.matching c.args.self.now.placed c.args.self.now.matched c.args.self.now.fair c.loop-end.tree
    c.loop-end.end
    (c.loop-end.step + 1)
    c.loop-end.invariant
    c.join.new.tree
    c.join.ensures
    c.in-Some.role
    c.in-Some.is
    c.args.self.now.owners_below
    c.relax.new.tree
    c.relax.ensures
    c.nearest-end-in-Some.result
    c.nearest-end-in-Some.ensures

pub loop-end-smaller : goal.loop-end-smaller
loop-end-smaller c = omega (arith, (loop-end-preserved c).count, c.loop-end.invariant.count)

pub returns : goal.returns
returns c =
    let free : 16 ≤ mate c.args.self.now.matching.owner c.loop-end.end = omega (arith, ap (λ o. unwrap_or o 16) c.in_default.is) in
    record {
      end = c.loop-end.invariant.end;
      free = free;
      end_inside = omega (arith, c.join-2.ensures.here);
      rooted =
          rooted_last c.args.self.now.costs.now c.args.self.now.prices c.args.self.now.matching c.args.self.now.placed c.args.self.now.matched c.args.self.now.fair c.loop-end.tree
          c.loop-end.end
          (c.loop-end.step + 1)
          c.loop-end.invariant
          c.join-2.new.tree
          c.join-2.ensures
          free;
      held =
          held_last c.args.self.now.costs.now c.args.self.now.prices c.args.self.now.matching c.args.self.now.placed c.args.self.now.matched c.args.self.now.fair c.loop-end.tree
          c.loop-end.end
          (c.loop-end.step + 1)
          c.loop-end.invariant
          c.join-2.new.tree
          c.join-2.ensures
          free;
    }
