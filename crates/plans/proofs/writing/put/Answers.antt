use Rattle.std.proofs.Common.{◌≡◌, ◌+◌, ◌-◌, sym, ap, ◌∙◌, arith, w64}
use Rattle.std.proofs.lemmas.Slice.{put_mid-paste}
use Rattle.std.proofs.lemmas.Int.{to_z-of_z}
use Rattle.sheets.specs.Text.{text}
use Rattle.sheets.proofs.Fields.{text_part, length-text}
use Rattle.plans.proofs.writing.put.Goals as goal

pub returns : goal.returns
returns c =
    let w = c.args.width in
    let z = c.args.z in
    let columns : c.numeral-columns.result ≡ text 20 z = c.numeral-columns.ensures ∙ ap (text 20) (to_z-of_z w64 z c.ranges.z) in
    let size : w ≡ c.args.at + w - c.args.at = omega arith in
    put_mid-paste c.args.at (c.args.at + w - c.args.at) c.args.buffer.now c.copy_from_slice.new.self (text w z) w
    (c.copy_from_slice.ensures.after ∙ text_part w z c.numeral-columns.result c.requires.0 c.requires.2 columns)
    size (sym (length-text w z c.requires.2))
