use Rattle.std.proofs.Common.{◌≡◌, Some}
use Rattle.book.specs.Refusals.{turn_of}
use Rattle.book.specs.Steps.{AdoptTurn, SettledBy}
use Rattle.book.specs.declared.stage.Stage.TheVariants.{Settled}
use Rattle.faults.specs.declared.fault.Call.TheVariants.{Adopt}
use Rattle.settling.specs.Settling.{Settles, adopt_refusal}
use Rattle.settling.specs.declared.settlement.Settlement.{Settlement}
use Rattle.book.proofs.Carried.{from_turn, taken}
use Rattle.book.proofs.book.Book.adopt.Goals as goal

pub returns : goal.returns
returns g c =
    let one = g.E.Element.unit in
    let w = g.E.Element.width in
    let n = g.T.Tariff.boards c.args.tariff.now in
    let price = g.T.Tariff.cost c.args.tariff.now in
    let p = c.args.plan.now in
    let before = c.args.self.now.stage in
    let after = c.take.new.self.stage in
    let r = c.take.result in
    let turn = c.in_ok-turn.field-0.now in
    let drawn : turn_of before ≡ Some turn = c.in_ok-turn.ensures in
    let found = c.adopt-found.ensures in
    from_turn Adopt before turn r after (AdoptTurn one w n price p before r after) drawn (
      found.0,
      found.1,
      taken Adopt turn (adopt_refusal price turn.drawing w found.0 n p) (λ s. (s.plan ≡ p) × Settles price turn.drawing w found.0 s)
          ((s : Settlement) × (after ≡ Settled turn s) × (s.plan ≡ p) × SettledBy one w price turn s) c.adopt-found.result before r after
          (λ s e k. (s, e, k.0, record { mark = found.0; marked = found.1; settles = k.1 }))
          found.2
          c.take.ensures,
    )
