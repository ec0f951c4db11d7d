use Rattle.std.proofs.Common.{◌≡◌, pos, ap, ◌∙◌, arith, w64, to_z}
use lib.Seq.{paste}
use Rattle.std.proofs.lemmas.Int.{to_z_pos}
use Rattle.sheets.specs.Text.{text}
use Rattle.sheets.proofs.Pasting.{first_put}
use Rattle.plans.proofs.writing.put_first.Goals as goal

pub returns : goal.returns
returns c =
    let e : to_z w64 c.args.bill ≡ pos c.args.bill = to_z_pos w64 c.args.bill (omega arith) in
    first_put c.args.buffer.now c.put_small.new.buffer c.put_wide.new.buffer c.put_end.new.buffer c.args.boards c.args.bill (omega arith) (omega arith)
    c.put_small.ensures (c.put_wide.ensures ∙ ap (λ z. paste c.put_small.new.buffer 4 (text 20 z) 20) e) c.put_end.ensures
