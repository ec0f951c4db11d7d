use Rattle.std.proofs.Common.{◌≤◌, length, refl}
use Rattle.sheets.specs.Sheet.{sheet_length}
use Rattle.plans.specs.Sheet.{Legal, write_refusal}
use Rattle.plans.proofs.Pasting.{sheet_put}
use Rattle.plans.proofs.Refusals.{passed}
use Rattle.plans.proofs.plan.Plan.write.Goals as goal

pub returns : goal.returns
returns c =
    let p = c.args.self.now in
    let n = length c.args.buffer.now in
    let (none, (_, (legal, room))) = passed (write_refusal p n) c.check_plan.result (λ _. Legal p × (sheet_length p.boards ≤ n)) c.in_ok-map_err.ensures.variant c.check_plan.ensures in (
      none,
      record {
        legal = legal;
        len = refl;
        is = sheet_put c.args.buffer.now c.put_first.new.buffer c.put_lines.new.buffer p legal c.put_first.ensures c.put_lines.ensures.after c.put_lines.ensures.len;
      },
    )
