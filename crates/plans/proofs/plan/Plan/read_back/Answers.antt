use Rattle.std.proofs.Common.{length, arith}
use Rattle.plans.proofs.BackAgain.{front_is, back_again}
use Rattle.plans.proofs.Refusals.{legal_from_none}
use Rattle.plans.proofs.plan.Plan.read_back.Goals as goal

pub slice_bounds-read-end : goal.slice_bounds-read-end
slice_bounds-read-end c =
    let w = c.in_ok-len.ensures in
    let room = (legal_from_none c.args.self.now (length c.args.buffer.now) w.0).1 in
    omega (arith, w.1.len, room)

pub returns : goal.returns
returns c =
    let w = c.in_ok-len.ensures in
    back_again c.args.self.now c.args.buffer.now c.write.new.buffer c.in_ok-len.len w.1 _ c.read.result w.0
    (front_is c.args.self.now c.args.buffer.now c.write.new.buffer c.in_ok-len.len w.1) c.read.ensures
