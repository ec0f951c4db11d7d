use Rattle.std.proofs.Common.{◌+◌, ◌*◌, ap, ◌∙◌}
use Rattle.drawings.specs.Drawings.{overlay_of}
use Rattle.drawings.proofs.Drawings.{is_cover}
use Rattle.drawings.proofs.drawing.Drawing.cover.Goals as goal
use Rattle.overlays.specs.Overlays.{source_block, target_block}

pub returns : goal.returns
returns c =
    let d = c.args.self.now in
    let h = c.in_ok-i.ensures in
    let cells = c.cells.result in
    let t = c.blocks-2.ensures.target
    ∙ (ap (λ o. target_block o (c.in_ok-i.i * cells.columns.now.spans + c.in_ok-i.j)) c.cells.ensures.overlay
    ∙ ap (λ l. target_block (overlay_of d) (c.in_ok-i.i * l.spans + c.in_ok-i.j)) c.cells.ensures.lines.1) in
    let s = c.blocks-2.ensures.source
    ∙ (ap (λ o. source_block o (c.in_ok-i.i * cells.columns.now.spans + c.in_ok-i.j)) c.cells.ensures.overlay
    ∙ ap (λ l. source_block (overlay_of d) (c.in_ok-i.i * l.spans + c.in_ok-i.j)) c.cells.ensures.lines.1) in
    record { cases = (h.0, is_cover d c.args.cell _ h.1.2 _ _ t s) }
