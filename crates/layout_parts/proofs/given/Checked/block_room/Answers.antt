use Rattle.std.proofs.Common.{arith}
use Rattle.layout_parts.proofs.Checked.{tall, wide}
use Rattle.layout_parts.proofs.given.Checked.block_room.Goals as goal

pub overflow_sub-height : goal.overflow_sub-height
overflow_sub-height c = omega (arith, tall c.args.self c.args.b c.requires)

pub overflow_sub-width : goal.overflow_sub-width
overflow_sub-width c = omega (arith, wide c.args.self c.args.b c.requires)
