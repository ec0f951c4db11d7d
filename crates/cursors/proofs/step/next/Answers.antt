use Rattle.std.proofs.Common.{◌≡◌, ◌+◌, ◌<◌, false, List, ◌++◌, sym, ap, ◌∙◌, subst, arith}
use Rattle.std.proofs.lemmas.List.{append-nil}
use Rattle.std.proofs.lemmas.Bool.{and_from, both_ways, lt-ltb}
use Rattle.std.specs.List.{AllByRecursion}
use Rattle.cursors.specs.Cursors.{admits, bounded}
use Rattle.cursors.specs.Steps.{Found, left_at, passes, run_at, advance}
use Rattle.runs.specs.Runs.{Run, pieces}
use Rattle.cursors.proofs.Stepping.{bounded_is, cells_few, is_cell, no_cell, none_left, stands_on, passed_on, skip_absent, skip_unwanted, step}
use Rattle.cursors.proofs.step.next.Goals as goal
use Rattle.cursors.proofs.step.next.Goals.{else-cell-sender-via-then-cell-sender+then-stands+else-admits, else-cell-sender-via-then-cell-sender+else-stands, else-cell-sender-via-else-cell-sender}

pub run_at-requires : goal.run_at-requires
run_at-requires c =
    let asked = c.in-Ok.ensures.cases in
    stands_on c.args.drawing.now c.clamp-most.result c.loop-cell.at c.in-Ok.cell (omega arith, omega arith) asked.1 (is_cell c.args.drawing.now c.loop-cell.at.cell asked.0) c.if-stands.ensures

pub advance-requires : goal.advance-requires
advance-requires c =
    let asked = c.in-Ok.ensures.cases in
    stands_on c.args.drawing.now c.clamp-most.result c.loop-cell.at c.in-Ok.cell (omega arith, omega arith) asked.1 (is_cell c.args.drawing.now c.loop-cell.at.cell asked.0) c.if-stands.ensures

pub next_cell-at-requires : goal.next_cell-at-requires
next_cell-at-requires c =
    let d = c.args.drawing.now in
    omega (arith, is_cell d c.loop-cell.at.cell c.in-Ok.ensures.cases.0, cells_few d)

pub returns-then-admits : goal.returns-then-admits
returns-then-admits c =
    let d = c.args.drawing.now in
    let at = c.loop-cell.at in
    let x = c.in-Ok.cell in
    let m = bounded c.args.longest in
    let asked = c.in-Ok.ensures.cases in
    let one = is_cell d at.cell asked.0 in
    let most : c.clamp-most.result ≡ m = omega (arith, c.clamp-most.ensures) in
    let on = stands_on d c.clamp-most.result at x (omega arith, omega arith) asked.1 one c.if-stands.ensures in
    let there : at.piece < pieces x.width m = subst (λ v. at.piece < pieces x.width v) most on.piece in
    let run : c.run_at.result ≡ run_at x m at = c.run_at.ensures ∙ ap (λ v. run_at x v at) most in
    let behind : c.advance.result ≡ advance x m at = c.advance.ensures ∙ ap (λ v. advance x v at) most in
    let found : Found d m c.args.sender c.args.from c.args.wanted (run_at x m at) (advance x m at) =
    record {
      skipped = c.loop-cell.invariant.0;
      split = c.loop-cell.invariant.1
          ∙ ap (λ v. c.loop-cell.invariant.0 ++ v) (step d m c.args.sender (bounded_is c.args.longest).0 at x asked.1 one c.if-cell-sender.true on.row there);
      unwanted = c.loop-cell.invariant.2;
      wanted = ap (admits c.args.wanted) (sym asked.1.role) ∙ sym c.if-admits.ensures;
      role = asked.1.role;
    } in
    subst (λ v. Found d m c.args.sender c.args.from c.args.wanted v c.advance.result) (sym run)
    (subst (λ v. Found d m c.args.sender c.args.from c.args.wanted (run_at x m at) v) (sym behind) found)

pub loop-cell-preserved : goal.loop-cell-preserved
loop-cell-preserved c =
    let d = c.args.drawing.now in
    let m = bounded c.args.longest in
    let i = c.args.sender in
    let w = c.args.wanted in
    let asked = c.in-Ok.ensures.cases in
    let one = is_cell d c.loop-cell.at.cell asked.0 in
    let some = (bounded_is c.args.longest).0 in
    let most : c.clamp-most.result ≡ bounded c.args.longest = omega (arith, c.clamp-most.ensures) in
    let skipped : (s : List Run) × (left_at d m i c.loop-cell.at ≡ s ++ left_at d m i (record { cell = c.loop-cell.at.cell + 1; row = 0; piece = 0 })) × AllByRecursion (λ v. passes d w v ≡ false) s =
    elim c.else-cell-sender.branch [
      | else-cell-sender-via-then-cell-sender+then-stands+else-admits v ↦ skip_unwanted d m i some c.loop-cell.at c.in-Ok.cell asked.1 one w (sym v.if-admits.ensures)
      | else-cell-sender-via-else-cell-sender v ↦ skip_absent d m i some c.loop-cell.at c.in-Ok.cell asked.1 one w (λ s g h. v.if-cell-sender.false s)
      | else-cell-sender-via-then-cell-sender+else-stands v ↦
          skip_absent d m i some c.loop-cell.at c.in-Ok.cell asked.1 one w
          (λ s g h. both_ways _ (sym v.if-stands.ensures) (and_from _ _ (lt-ltb _ _ g) (lt-ltb _ _ (subst (λ n. c.loop-cell.at.piece < pieces c.in-Ok.cell.width n) (sym most) h))))
    ] in
    subst (λ n. (s : List Run) × (left_at d m i c.args.from ≡ s ++ left_at d m i n) × AllByRecursion (λ v. passes d w v ≡ false) s) (sym c.next_cell-at.ensures)
    (passed_on (λ v. passes d w v ≡ false) _ _ _ c.loop-cell.invariant.0 skipped.0 c.loop-cell.invariant.1 skipped.1 c.loop-cell.invariant.2 skipped.2)

pub returns : goal.returns
returns c =
    let d = c.args.drawing.now in
    let m = bounded c.args.longest in
    let past = no_cell d c.loop-cell.at.cell c.in_default.field-0.cause c.in_default.ensures.cases.0 in
    let end : left_at d m c.args.sender c.args.from ≡ c.loop-cell.invariant.0 =
    c.loop-cell.invariant.1 ∙ ap (λ v. c.loop-cell.invariant.0 ++ v) (none_left d m c.args.sender (bounded_is c.args.longest).0 c.loop-cell.at past) ∙ append-nil c.loop-cell.invariant.0 in
    subst (AllByRecursion (λ v. passes d c.args.wanted v ≡ false)) (sym end) c.loop-cell.invariant.2
