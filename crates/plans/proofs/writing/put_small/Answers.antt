use Rattle.std.proofs.Common.{◌≡◌, pos, arith, w64, to_z}
use Rattle.std.proofs.lemmas.Int.{ints, to_z_pos}
use Rattle.sheets.proofs.Fields.{room_small}
use Rattle.plans.proofs.writing.put_small.Goals as goal

pub put-requires : goal.put-requires
put-requires c =
    let e : to_z w64 c.args.n ≡ pos c.args.n = to_z_pos w64 c.args.n (omega arith) in (
      omega arith,
      c.requires.0,
      rw e (room_small c.args.n c.args.n c.requires.1 (pos c.args.n) (omega (arith, ints)) (omega (arith, ints))),
    )
