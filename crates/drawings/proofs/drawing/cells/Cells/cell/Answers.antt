use Rattle.std.proofs.Common.{sym, arith}
use Rattle.drawings.proofs.Drawings.{area_at, bottom_at, left_at, package_few, right_at, tall_at, top_at, wide_at}
use Rattle.drawings.proofs.drawing.cells.Cells.cell.Goals as goal

pub overflow_sub-result : goal.overflow_sub-result
overflow_sub-result c =
    let s = c.args.self.now in
    omega (arith, tall_at s.operation s.target.now s.source.now s.rows.now s.columns.now s.drawable c.args.i c.args.j c.requires.inside.0 c.requires.inside.1)

pub overflow_sub-result-2 : goal.overflow_sub-result-2
overflow_sub-result-2 c =
    let s = c.args.self.now in
    omega (arith, wide_at s.operation s.target.now s.source.now s.rows.now s.columns.now s.drawable c.args.i c.args.j c.requires.inside.0 c.requires.inside.1)

pub returns-clause-bound : goal.returns-clause-bound
returns-clause-bound c =
    let s = c.args.self.now in (
      c.owners-sender.ensures.bound.0,
      c.owners-sender.ensures.bound.1,
      omega (arith, area_at s.operation s.target.now s.source.now s.rows.now s.columns.now s.drawable c.args.i c.args.j c.requires.inside.0 c.requires.inside.1, package_few s.operation s.target.now s.source.now s.rows.now s.columns.now s.drawable c.args.i c.args.j c.requires.inside.0 c.requires.inside.1),
    )

pub returns-clause-cell : goal.returns-clause-cell
returns-clause-cell c =
    let s = c.args.self.now in
    let t = top_at s.operation s.target.now s.source.now s.rows.now s.columns.now s.drawable c.args.i c.args.j c.requires.inside.0 c.requires.inside.1 in
    let b = bottom_at s.operation s.target.now s.source.now s.rows.now s.columns.now s.drawable c.args.i c.args.j c.requires.inside.0 c.requires.inside.1 in
    let l = left_at s.operation s.target.now s.source.now s.rows.now s.columns.now s.drawable c.args.i c.args.j c.requires.inside.0 c.requires.inside.1 in
    let r = right_at s.operation s.target.now s.source.now s.rows.now s.columns.now s.drawable c.args.i c.args.j c.requires.inside.0 c.requires.inside.1 in
    record {
      top = sym t;
      left = sym l;
      height = omega (arith, t, b);
      width = omega (arith, l, r);
      role = c.owners-sender.ensures.role;
      sender = c.owners-sender.ensures.sender;
    }
