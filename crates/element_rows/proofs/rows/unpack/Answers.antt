use Rattle.std.proofs.Common.{◌*◌, ◌<◌, length, sym, ap, ◌∙◌, arith, length-append, rules}
use Rattle.element_rows.specs.Rows.{words_of_row, row_of_words}
use Rattle.element_rows.proofs.RowsOfWords.{length-words_of_row, round_trip}
use Rattle.element_rows.proofs.rows.unpack.Goals as goal

pub returns-then-not-fits-clause-kept : goal.returns-then-not-fits-clause-kept
returns-then-not-fits-clause-kept g c =
    let w = g.E.Element.width in
    let words = g.E.Element.words in
    let short : length c.args.from.now < length c.args.row.now * w = search rules in
    λ packed rest e l.
    absurd
    (omega (arith, short, ap length e ∙ length-append (words_of_row words packed) rest, length-words_of_row words w g.met.E.Element.sized packed, ap (λ n. n * w) l))

pub returns-clause-kept : goal.returns-clause-kept
returns-clause-kept g c =
    let w = g.E.Element.width in
    let words = g.E.Element.words in
    let back = g.E.Element.back in
    λ packed rest e l.
    c.read_row.ensures.after
    ∙ ap (λ n. row_of_words back w n c.args.from.now) (sym l)
    ∙ ap (row_of_words back w (length packed)) e
    ∙ round_trip words back w g.met.E.Element.sized g.met.E.Element.kept packed rest
