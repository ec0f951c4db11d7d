use Rattle.std.proofs.Common.{◌≡◌, drop}
use Rattle.wrong_lists.specs.Lists.{wrong_from, first_wrong}
use Rattle.wrong_lists.proofs.lists.first_wrong.Given as goal

abbrev pub invariant-loop-k : goal.invariant-loop-k
invariant-loop-k g l = wrong_from (g.R.ListRule.may l.rule) l.k l.before (drop l.k l.items) ≡ first_wrong (g.R.ListRule.may l.rule) l.items
