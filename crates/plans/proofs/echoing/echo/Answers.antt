use Rattle.std.proofs.Common.{◌≡◌, length, rules}
use Rattle.plans.proofs.BackAgain.{echoed, echo_bound}
use Rattle.plans.proofs.echoing.echo.Goals as goal

pub returns : goal.returns
returns c =
    let size : length c.args.buffer.now ≡ 809 = search rules in
    let read = c.in_ok-plan.ensures in
    record {
      answer = echoed c.in_ok-plan.plan c.args.bytes.now c.args.buffer.now c.write.new.buffer c.write.result size read.0 read.1 c.write.ensures;
      bound = echo_bound c.in_ok-plan.plan c.args.buffer.now c.write.new.buffer c.write.result c.write.ensures;
    }
