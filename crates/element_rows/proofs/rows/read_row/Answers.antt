use Rattle.std.proofs.Common.{◌≡◌, ◌+◌, ◌-◌, ◌*◌, ◌++◌, take, drop, set, ap, ◌∙◌, arith}
use Rattle.element_rows.specs.Rows.{row_of_words}
use Rattle.element_rows.proofs.RowsOfWords.{unpack_more}
use Rattle.element_rows.proofs.rows.read_row.Goals as goal

pub loop-k-preserved : goal.loop-k-preserved
loop-k-preserved g c =
    let w = g.E.Element.width in
    let back = g.E.Element.back in
    let xs = c.args.from.now in
    let k = c.loop-k.k in
    let size = c.size-size.ensures.value in
    let here : k * c.size-size.result + c.size-size.result - k * c.size-size.result ≡ w = omega (arith, size) in
    let value : c.read.result ≡ back (take w (drop (k * w) xs)) =
    c.read.ensures.value
    ∙ ap (λ n. back (take n (drop (k * c.size-size.result) xs))) here
    ∙ ap (λ n. back (take w (drop (k * n) xs))) size
    in
    ap (λ t. set t k c.read.result) c.loop-k.invariant
    ∙ ap (set (row_of_words back w k xs ++ drop k c.args.row.now) k) value
    ∙ unpack_more back w c.args.row.now xs k c.loop-k-test.true
