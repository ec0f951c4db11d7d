use Rattle.wrong_lists.proofs.WrongLists.{wrong_at_entry, wrong_at_end}
use Rattle.wrong_lists.proofs.lists.first_wrong.Goals as goal

pub returns-then-not-may_stand-clause-law : goal.returns-then-not-may_stand-clause-law
returns-then-not-may_stand-clause-law g c =
    wrong_at_entry (g.R.ListRule.may c.args.rule.now) (g.met.R.ListRule.completes c.args.rule.now) c.args.items.now c.loop-k.k c.loop-k.before c.loop-k.invariant
    c.index-items-k.result c.loop-k-test.true c.index-items-k.is c.if-not-may_stand.ensures.value

pub returns-else-may_stand-clause-law : goal.returns-else-may_stand-clause-law
returns-else-may_stand-clause-law g c =
    wrong_at_end (g.R.ListRule.may c.args.rule.now) (g.met.R.ListRule.completes c.args.rule.now) c.args.items.now c.loop-k.k c.loop-k.before c.loop-k.invariant
    c.loop-k-test.false c.loop-k.auto.k-end c.if-may_stand.ensures.value
