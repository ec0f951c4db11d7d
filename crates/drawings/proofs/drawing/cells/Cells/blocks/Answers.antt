use Rattle.std.proofs.Common.{◌+◌, ◌*◌, ap, ◌∙◌}
use Rattle.drawings.proofs.Drawings.{line_at, source_at, target_at}
use Rattle.drawings.proofs.drawing.cells.Cells.blocks.Goals as goal
use Rattle.overlays.specs.Turns.{turned}

pub returns-clause-target : goal.returns-clause-target
returns-clause-target c =
    let s = c.args.self.now in
    target_at s.operation s.target.now s.source.now s.rows.now s.columns.now s.drawable c.args.i c.args.j c.requires.inside.0 c.requires.inside.1

pub returns-clause-source : goal.returns-clause-source
returns-clause-source c =
    let s = c.args.self.now in
    let n = s.source.now.column_blocks in
    let x = (line_at s.rows.now c.args.i).source in
    let y = (line_at s.columns.now c.args.j).source in
    ap (λ z. z * n + c.turned-across.result) c.turned-down.ensures.value
    ∙ (ap (λ z. turned s.operation x y * n + z) c.turned-across.ensures.value
    ∙ source_at s.operation s.target.now s.source.now s.rows.now s.columns.now s.drawable c.args.i c.args.j c.requires.inside.0 c.requires.inside.1)
