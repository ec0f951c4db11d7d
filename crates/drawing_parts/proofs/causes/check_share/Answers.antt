use Rattle.std.proofs.Common.{◌≡◌, None, sym, ◌∙◌, arith}
use Rattle.drawing_parts.specs.Refusals.{exceeds, first_below}
use Rattle.drawing_parts.proofs.Making.{share_fine, none_over}
use Rattle.drawing_parts.proofs.causes.check_share.Goals as goal

pub returns-in-None : goal.returns-in-None
returns-in-None c =
    let l = c.args.layout.now in
    let s = c.args.share in
    let none : first_below l.boards (exceeds l s) ≡ None = sym c.first_over.ensures ∙ c.in-None.is in
    (share_fine c.args.bank l s (omega arith) (omega arith) none, (omega arith, omega arith, none_over l s none))
