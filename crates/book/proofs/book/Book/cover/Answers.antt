use Rattle.std.proofs.Common.{◌≡◌, Some, ap, rules}
use Rattle.std.specs.Option.{option_map}
use Rattle.book.specs.Asking.{drawing_of}
use Rattle.drawings.specs.Asking.{IsCover, cell_refusal}
use Rattle.faults.specs.declared.fault.Call.TheVariants.{Cover}
use Rattle.faults.specs.declared.fault.Layer.TheVariants.{Drawings}
use Rattle.book.proofs.Carried.{told}
use Rattle.book.proofs.book.Book.cover.Goals as goal

pub returns : goal.returns
returns g c =
    let turn = c.in_ok-turn.field-0.now in
    let d = turn.drawing in
    let drawn : drawing_of c.args.self.now.stage ≡ Some d = ap (option_map (λ t. t.drawing)) c.in_ok-turn.ensures in
    rw drawn
    (told Cover Drawings Cover (cell_refusal d c.args.cell) (λ v. IsCover d c.args.cell v.0 v.1) _ c.cover.result c.map_err.result
    (λ v k. record { drawing = d; drawn = drawn; cover = k })
    c.cover.ensures.cases
    (search rules))
