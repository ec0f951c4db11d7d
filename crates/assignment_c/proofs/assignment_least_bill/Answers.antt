use Rattle.std.proofs.Common.{sym, refl, ◌∙◌}
use Rattle.std.proofs.lemmas.Option.{none-some}
use Rattle.assignment_c.proofs.assignment_least_bill.Goals as goal

pub returns-in-Ok : goal.returns-in-Ok
returns-in-Ok c =
    let made = c.in-Ok.ensures in
    record {
      refused = λ cause e. absurd (none-some cause (sym made.0 ∙ e));
      least = λ _. (c.in-Ok.table, c.solve.result, made.1, c.solve.ensures, refl);
    }
