use Rattle.std.proofs.Common.{rules, refl}
use Rattle.assignment_search.proofs.Flipping.{switching_step}
use Rattle.assignment_search.proofs.paths.Path.switch.Goals as goal

pub loop-role-preserved : goal.loop-role-preserved
loop-role-preserved c = (
  (switching_step c.args.costs.now.boards c.args.root c.args.costs.now.most c.args.matching.now c.args.self.now.tree c.args.self.now.end c.requires.matched c.requires.route
      c.loop-role.matching
      c.loop-role.board
      c.loop-role.role
      c.unwrap-next.result
      c.loop-role.invariant.0
      c.loop-role.invariant.1
      c.loop-role-test.true
      c.unwrap-next.ensures
      c.give.new.matching
      c.give.ensures.given).0,
  refl,
  c.give.ensures.owners,
  c.give.ensures.names,
)

pub returns : goal.returns
returns c =
    record {
      switched = record { matched = record { named = search rules; unnamed = search rules; back = search rules; forth = search rules }; pairs = search rules; freed = search rules };
      owners = c.give-2.ensures.owners;
      names = c.give-2.ensures.names;
    }
