use Rattle.std.proofs.Common.{◌≡◌, ◌+◌, ◌-◌, ◌*◌, ◌/◌, ◌≤◌, length, get_or, take, drop, Some, sym, ap, ◌∙◌, arith, length-append}
use Rattle.std.proofs.lemmas.Option.{slice_get-get_or}
use Rattle.element_rows.specs.Rows.{words_of_row}
use Rattle.element_rows.proofs.RowsOfWords.{room, outside, length-words_of_row, words_at}
use Rattle.element_rows.proofs.rows.element_at.Goals as goal

pub returns-then-index-from-clause-kept : goal.returns-then-index-from-clause-kept
returns-then-index-from-clause-kept g c =
    let w = g.E.Element.width in
    let k = c.args.index in
    let words = g.E.Element.words in
    let xs = c.args.from.now in
    let beyond : length xs / w ≤ k = omega (arith, ap (λ n. length xs / n) c.size-size.ensures.value, c.if-index-from.true) in
    let short = outside (length xs) w k g.met.E.Element.least beyond in
    λ packed rest e l.
    absurd
    (omega (arith, short, ap length e ∙ length-append (words_of_row words packed) rest, length-words_of_row words w g.met.E.Element.sized packed, room k (length packed) w l))

pub returns-clause-kept : goal.returns-clause-kept
returns-clause-kept g c =
    let w = g.E.Element.width in
    let k = c.args.index in
    let words = g.E.Element.words in
    let back = g.E.Element.back in
    let xs = c.args.from.now in
    let size : k * c.size-size.result + c.size-size.result - k * c.size-size.result ≡ w = omega (arith, c.size-size.ensures.value) in
    let value : c.read.result ≡ back (take w (drop (k * w) xs)) =
    c.read.ensures.value
    ∙ ap (λ n. back (take n (drop (k * c.size-size.result) xs))) size
    ∙ ap (λ n. back (take w (drop (k * n) xs))) c.size-size.ensures.value
    in
    λ packed rest e l.
    ap Some
    (value
    ∙ ap (λ t. back (take w (drop (k * w) t))) e
    ∙ ap back (words_at words w g.met.E.Element.sized packed rest k c.read.result l)
    ∙ g.met.E.Element.kept (get_or packed k c.read.result))
    ∙ sym (slice_get-get_or packed k c.read.result l)
