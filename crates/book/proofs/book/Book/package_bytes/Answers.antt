use Rattle.std.proofs.Common.{◌≡◌, Some, ap, ◌∙◌, rules}
use Rattle.std.specs.Option.{option_map}
use Rattle.book.specs.Asking.{drawing_of}
use Rattle.drawings.specs.Asking.{board_refusal}
use Rattle.drawings.specs.Drawings.{package_of}
use Rattle.faults.specs.declared.fault.Call.TheVariants.{Ask}
use Rattle.faults.specs.declared.fault.Layer.TheVariants.{Drawings}
use Rattle.overlays.specs.Packages.{bytes}
use Rattle.book.proofs.Carried.{told}
use Rattle.book.proofs.book.Book.package_bytes.Goals as goal

pub returns : goal.returns
returns g c =
    let turn = c.in_ok-turn.field-0.now in
    let d = turn.drawing in
    let i = c.args.sender in
    let x = c.args.role in
    let drawn : drawing_of c.args.self.now.stage ≡ Some d = ap (option_map (λ t. t.drawing)) c.in_ok-turn.ensures in
    rw drawn
    (told Ask Drawings Ask (board_refusal d i x) (λ v. v ≡ bytes (package_of d i x) c.size.result) _ c.package_bytes.result c.map_err.result
    (λ v k. record { drawing = d; drawn = drawn; size = k ∙ ap (bytes (package_of d i x)) c.size.ensures.value })
    c.package_bytes.ensures.cases
    (search rules))
