use Rattle.std.proofs.Common.{◌≡◌, pos, arith, w64, to_z}
use Rattle.std.proofs.lemmas.Int.{to_z_pos}
use Rattle.sheets.proofs.Fields.{room_small}
use Rattle.plans.proofs.columns.small.Goals as goal

pub field-requires-clause-room : goal.field-requires-clause-room
field-requires-clause-room c =
    let low : to_z w64 c.args.low ≡ pos c.args.low = to_z_pos w64 c.args.low (omega arith) in
    let high : to_z w64 c.args.high ≡ pos c.args.high = to_z_pos w64 c.args.high (omega arith) in
    rw (low, high) (room_small c.args.low c.args.high c.requires.2)
