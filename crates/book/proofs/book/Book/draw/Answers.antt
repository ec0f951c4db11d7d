use Rattle.std.proofs.Common.{◌≡◌, None, refl, ap}
use Rattle.std.specs.Option.{option_map}
use Rattle.drawings.specs.Making.{make_refusal}
use Rattle.faults.specs.declared.cause.Cause.{Cause}
use Rattle.faults.specs.declared.fault.Call.TheVariants.{Make}
use Rattle.faults.specs.declared.fault.Fault.{Fault}
use Rattle.faults.specs.declared.fault.Layer.TheVariants.{Drawings}
use Rattle.book.proofs.book.Book.draw.Goals as goal

pub returns-in-Ok : goal.returns-in-Ok
returns-in-Ok g c =
    let made = c.in-Ok.ensures.cases in
    let taken : make_refusal c.args.letter c.args.target.now c.args.source.now c.args.source_share c.args.target_share ≡ None = cc made.0 in
    let fault : Cause → Fault = λ why. record { layer = Drawings; call = Make; cause = why } in (
      ap (option_map fault) taken,
      record { turn = record { drawing = c.in-Ok.drawing; alpha = c.args.alpha }; now_drawn = refl; drawing = made.1; factor = refl },
    )
