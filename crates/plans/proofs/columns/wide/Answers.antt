use Rattle.std.proofs.Common.{◌≡◌, w64, to_z, of_z}
use Rattle.std.proofs.lemmas.Int.{to_z-of_z}
use Rattle.sheets.proofs.Fields.{room_wide}
use Rattle.plans.proofs.columns.wide.Goals as goal

pub field-requires-clause-room : goal.field-requires-clause-room
field-requires-clause-room c =
    let low : to_z w64 (of_z w64 c.args.low) ≡ c.args.low = to_z-of_z w64 c.args.low c.ranges.low in
    let high : to_z w64 (of_z w64 c.args.high) ≡ c.args.high = to_z-of_z w64 c.args.high c.ranges.high in
    rw (low, high) (room_wide c.args.low c.args.high c.requires.1 c.requires.2)
