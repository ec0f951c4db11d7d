use Rattle.std.proofs.Common.{◌≡◌, ◌*◌, ap, ◌∙◌, arith}
use Rattle.splits.specs.Splits.{covering}
use Rattle.layouts.specs.Layouts.{row_cuts, column_cuts}
use Rattle.layouts.proofs.Layouts.{cover_few}
use Rattle.layouts.proofs.Spots.{asked_element, is_cover, is_cover_of}
use Rattle.layouts.proofs.layout.Layout.cover.Goals as goal

pub overflow_mul-result : goal.overflow_mul-result
overflow_mul-result c =
    let l = c.args.self.now in
    let d : c.covering_block-down.result ≡ covering (row_cuts l) c.args.row = c.covering_block-down.ensures.value ∙ ap (λ xs. covering xs c.args.row) c.row_splits.ensures.value in
    let m : c.covering_block-down.result * l.column_blocks ≡ covering (row_cuts l) c.args.row * l.column_blocks = ap (λ x. x * l.column_blocks) d in
    omega (arith, m, cover_few l c.args.row c.args.column c.if-row-self.false c.if-column-self.false)

pub overflow_add-result : goal.overflow_add-result
overflow_add-result c =
    let l = c.args.self.now in
    let d : c.covering_block-down.result ≡ covering (row_cuts l) c.args.row = c.covering_block-down.ensures.value ∙ ap (λ xs. covering xs c.args.row) c.row_splits.ensures.value in
    let a : c.covering_block-across.result ≡ covering (column_cuts l) c.args.column = c.covering_block-across.ensures.value ∙ ap (λ xs. covering xs c.args.column) c.column_splits.ensures.value in
    let m : c.covering_block-down.result * l.column_blocks ≡ covering (row_cuts l) c.args.row * l.column_blocks = ap (λ x. x * l.column_blocks) d in
    omega (arith, m, a, cover_few l c.args.row c.args.column c.if-row-self.false c.if-column-self.false)

pub returns : goal.returns
returns c =
    let l = c.args.self.now in
    let d : c.covering_block-down.result ≡ covering (row_cuts l) c.args.row = c.covering_block-down.ensures.value ∙ ap (λ xs. covering xs c.args.row) c.row_splits.ensures.value in
    let a : c.covering_block-across.result ≡ covering (column_cuts l) c.args.column = c.covering_block-across.ensures.value ∙ ap (λ xs. covering xs c.args.column) c.column_splits.ensures.value in
    let h = c.if-row-self.false in
    let k = c.if-column-self.false in
    record {
      cases = (
        asked_element l c.args.row c.args.column h k,
        is_cover l c.args.row c.args.column h k _ (is_cover_of l c.args.row c.args.column h k c.covering_block-down.result c.covering_block-across.result d a),
      );
    }
