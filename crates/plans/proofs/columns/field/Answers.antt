use Rattle.std.proofs.Common.{◌≡◌, ◌∙◌, drop, inl, inr, arith, rules, length-drop, length-take}
use Rattle.sheets.specs.Sheet.{part}
use Rattle.sheets.specs.Text.{reads}
use Rattle.sheets.proofs.Fields.{reads_found, reads_short}
use Rattle.plans.proofs.columns.field.Goals as goal

pub returns-in_err-get-clause-value : goal.returns-in_err-get-clause-value
returns-in_err-get-clause-value c =
    let bs = c.args.bytes.now in
    let w = c.args.width in
    c.from_residual.ensures
    ∙ reads_short w c.args.low c.args.high (part bs c.args.at w) c.requires.room
    (λ e. elim c.in_err-get.ensures.lookup.0 [
      | inl l ↦ omega arith
      | inr l ↦ omega (arith, l, e, length-take w (drop c.args.at bs), length-drop c.args.at bs, c.requires.place)
    ])

pub returns-clause-found : goal.returns-clause-found
returns-clause-found c =
    let value : c.number.result ≡ reads c.args.width c.args.low c.args.high (part c.args.bytes.now c.args.at c.args.width) = search rules in
    reads_found c.args.width c.args.low c.args.high (part c.args.bytes.now c.args.at c.args.width) c.number.result value
