use Rattle.std.proofs.Common.{◌≡◌, arith, w64, to_z, of_z}
use Rattle.std.proofs.lemmas.Int.{ints, to_z-of_z}
use Rattle.sheets.proofs.Fields.{room_wide}
use Rattle.plans.proofs.writing.put_wide.Goals as goal

pub put-requires : goal.put-requires
put-requires c =
    let z = c.args.z in
    let e : to_z w64 (of_z w64 c.args.z) ≡ c.args.z = to_z-of_z w64 c.args.z c.ranges.z in (
      omega arith,
      c.requires.0,
      rw e (room_wide c.args.z c.args.z c.requires.1 c.requires.1 c.args.z (omega (arith, ints)) (omega (arith, ints))),
    )
