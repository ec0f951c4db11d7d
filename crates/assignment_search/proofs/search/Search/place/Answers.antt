use Rattle.assignment_search.proofs.Settling.{fair_next, held_next}
use Rattle.assignment_search.proofs.search.Search.place.Goals as goal

pub invariant_of-self : goal.invariant_of-self
invariant_of-self c =
    record {
      owners_below = c.switch.ensures.owners;
      names_below = c.switch.ensures.names;
      matched = c.switch.ensures.switched.matched;
      fair =
          fair_next c.args.self.now.costs.now c.args.self.now.prices c.settle.new.prices c.args.self.now.matching c.args.self.now.placed
          c.grow-path.result.tree
          c.grow-path.result.end
          c.requires
          c.args.self.now.matched
          c.args.self.now.fair
          c.args.self.now.held
          c.grow-path.ensures
          c.settle.ensures
          c.switch.new.matching
          c.switch.ensures.switched;
      held =
          held_next c.args.self.now.costs.now c.args.self.now.prices c.settle.new.prices c.args.self.now.matching c.args.self.now.placed
          c.grow-path.result.tree
          c.grow-path.result.end
          c.requires
          c.args.self.now.matched
          c.args.self.now.fair
          c.args.self.now.held
          c.grow-path.ensures
          c.settle.ensures
          c.switch.new.matching
          c.switch.ensures.switched;
    }
