use Rattle.std.proofs.Common.{◌+◌, ap, ◌∙◌, arith, w64, SFits, rules}
use lib.Seq.{paste}
use Rattle.std.proofs.lemmas.Int.{to_z-of_z}
use Rattle.sheets.specs.Text.{text}
use Rattle.sheets.proofs.Fields.{price_small}
use Rattle.sheets.proofs.Pasting.{line_put}
use Rattle.plans.proofs.writing.put_line.Goals as goal

pub returns : goal.returns
returns c =
    let l = c.args.line.now in
    let u_fits : SFits w64 c.args.line.now.u = search rules in
    let v_fits : SFits w64 c.args.line.now.v = search rules in
    line_put c.args.buffer.now c.put_small.new.buffer c.put_small-2.new.buffer c.put_wide.new.buffer c.put_wide-2.new.buffer c.put_end.new.buffer
    c.args.at c.args.x c.args.line.now (omega arith) (omega arith) (omega arith) (price_small l.u c.requires.2.1) (price_small l.v c.requires.2.2)
    c.put_small.ensures c.put_small-2.ensures
    (c.put_wide.ensures ∙ ap (λ z. paste c.put_small-2.new.buffer (c.args.at + 8) (text 20 z) 20) (to_z-of_z w64 l.u u_fits))
    (c.put_wide-2.ensures ∙ ap (λ z. paste c.put_wide.new.buffer (c.args.at + 28) (text 20 z) 20) (to_z-of_z w64 l.v v_fits))
    c.put_end.ensures
