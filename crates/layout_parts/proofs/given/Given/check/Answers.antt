use Rattle.std.proofs.Common.{arith}
use Rattle.layout_parts.proofs.Making.{few_blocks}
use Rattle.layout_parts.proofs.given.Given.check.Goals as goal

pub overflow_mul-blocks : goal.overflow_mul-blocks
overflow_mul-blocks c =
    let s = c.args.self in
    omega (arith, few_blocks s.letter s.boards s.rows s.columns s.row_splits.now s.column_splits.now c.in_ok-order.ensures.0)
