use Rattle.std.proofs.Common.{◌≡◌, false, eqb, leb, refl, ◌∙◌, arith}
use Rattle.std.proofs.lemmas.Bool.{lt-leb}
use Rattle.assignment_search.specs.Search.{val}
use Rattle.assignment.proofs.Checked.{any_taken}
use Rattle.assignment.proofs.judging.is_misnamed.Goals as goal

pub returns-else-boards-name : goal.returns-else-boards-name
returns-else-boards-name c =
    let n = c.args.boards in
    let name = val c.args.naming.now c.args.role in
    let held : leb n name ≡ false = lt-leb n name c.if-boards-name.false in
    c.contains.ensures.value ∙ any_taken (λ y. eqb y name) c.args.naming.now c.args.role (omega arith) ∙ rw held refl
