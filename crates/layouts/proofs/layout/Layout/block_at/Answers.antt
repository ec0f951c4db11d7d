use Rattle.std.proofs.Common.{arith}
use Rattle.layouts.proofs.Layouts.{top_held, bottom_held, left_held, right_held, tall, wide, owner_held, one}
use Rattle.layouts.proofs.layout.Layout.block_at.Goals as goal

pub overflow_sub-result : goal.overflow_sub-result
overflow_sub-result c =
    let l = c.args.self.now in
    let b = c.args.number in
    omega (arith, top_held l b c.requires, bottom_held l b c.requires, tall l b c.requires)

pub overflow_sub-result-2 : goal.overflow_sub-result-2
overflow_sub-result-2 c =
    let l = c.args.self.now in
    let b = c.args.number in
    omega (arith, left_held l b c.requires, right_held l b c.requires, wide l b c.requires)

pub returns : goal.returns
returns c =
    let l = c.args.self.now in
    let b = c.args.number in
    let h = c.requires in
    record {
      top = top_held l b h;
      left = left_held l b h;
      height = omega (arith, top_held l b h, bottom_held l b h);
      width = omega (arith, left_held l b h, right_held l b h);
      owner = owner_held l b (one l b h);
      start = l.started b h;
    }
