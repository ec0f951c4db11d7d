use Rattle.std.proofs.Common.{refl, ap, ◌∙◌}
use Rattle.splits.specs.Places.{step_along_row, step_down_column}
use Rattle.layouts.proofs.Spots.{in_row, in_column, low, near, early, spotted}
use Rattle.layouts.proofs.layout.Layout.spot_of.Goals as goal

pub offset_at-requires : goal.offset_at-requires
offset_at-requires c =
    let l = c.args.self.now in
    let b = c.args.number in
    let k = c.block_at-block.result in
    let is = c.block_at-block.ensures in (
      in_row l b c.args.row c.args.column c.requires k is,
      in_column l b c.args.row c.args.column c.requires k is,
      low l b c.args.row c.args.column c.requires k is,
      near l b c.args.row c.args.column c.requires k is,
      early l b c.args.row c.args.column c.requires k is,
    )

pub returns : goal.returns
returns c =
    let l = c.args.self.now in
    let k = c.block_at-block.result in
    spotted l c.args.number c.args.row c.args.column c.requires k c.block_at-block.ensures _ refl c.offset_at.ensures
    (c.step_along_row.ensures.value ∙ ap (step_along_row l.order) c.pitch-pitch.ensures.value)
    (c.step_down_column.ensures.value ∙ ap (step_down_column l.order) c.pitch-pitch.ensures.value)
