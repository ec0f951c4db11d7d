use Rattle.std.proofs.Common.{◌≡◌, ◌<◌, true, false, rules, tests}
use Rattle.std.proofs.lemmas.Iterator.{first_from_Range}
use Rattle.drawing_parts.specs.Refusals.{exceeds}
use Rattle.drawing_parts.proofs.Making.{first_is}
use Rattle.drawing_parts.proofs.causes.first_over.Goals as goal

pub returns : goal.returns
returns c =
    let p = exceeds c.args.layout.now c.args.share in
    first_is c.args.layout.now.boards p c.find.result
    (first_from_Range _ _ _ _ (λ i. p i ≡ true) (λ i. i < c.args.layout.now.boards → p i ≡ false) c.find.ensures.ran
    (λ i q k. search (rules, tests))
    (λ i q k. (search rules, λ h. search (rules, tests))))
