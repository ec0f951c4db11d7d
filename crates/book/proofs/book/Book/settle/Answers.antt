use Rattle.std.proofs.Common.{◌≡◌, Some}
use Rattle.book.specs.Refusals.{turn_of}
use Rattle.book.specs.Steps.{SettleTurn, SettledBy}
use Rattle.book.specs.declared.stage.Stage.TheVariants.{Settled}
use Rattle.faults.specs.declared.fault.Call.TheVariants.{Settle}
use Rattle.settling.specs.Prices.{count_refusal}
use Rattle.settling.specs.Settling.{Settles}
use Rattle.settling.specs.declared.settlement.Settlement.{Settlement}
use Rattle.book.proofs.Carried.{from_turn, taken}
use Rattle.book.proofs.book.Book.settle.Goals as goal

pub returns : goal.returns
returns g c =
    let one = g.E.Element.unit in
    let w = g.E.Element.width in
    let n = g.T.Tariff.boards c.args.tariff.now in
    let price = g.T.Tariff.cost c.args.tariff.now in
    let before = c.args.self.now.stage in
    let after = c.take.new.self.stage in
    let r = c.take.result in
    let turn = c.in_ok-turn.field-0.now in
    let drawn : turn_of before ≡ Some turn = c.in_ok-turn.ensures in
    let found = c.settle-found.ensures in
    from_turn Settle before turn r after (SettleTurn one w n price before r after) drawn
    (taken Settle turn (count_refusal turn.drawing n) (Settles price turn.drawing w found.0)
    ((s : Settlement) × (after ≡ Settled turn s) × SettledBy one w price turn s) c.settle-found.result before r after
    (λ s e k. (s, e, record { mark = found.0; marked = found.1; settles = k }))
    found.2
    c.take.ensures)
