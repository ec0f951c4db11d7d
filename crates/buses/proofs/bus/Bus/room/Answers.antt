use Rattle.std.proofs.Common.{◌≡◌, ◌+◌, ◌-◌, length, ap, ◌∙◌, arith}
use Rattle.std.proofs.lemmas.List.{length-take-le}
use Rattle.buses.specs.Buses.{log, queue, taken}
use Rattle.buses.specs.Entries.{entries}
use Rattle.buses.proofs.Weighed.{taken_laid, room_left}
use Rattle.buses.proofs.bus.Bus.room.Goals as goal

pub returns-clause-value : goal.returns-clause-value
returns-clause-value c =
    let s = c.args.self.now in
    let len : s.words.len ≡ length s.words.items = s.words.ok.0 in
    let used : taken s.boards (queue s) ≡ s.used =
    taken_laid s.boards (entries (log s)) s.legal ∙ ap length s.kept ∙ length-take-le s.used s.words.items (omega (arith, s.fits)) in
    let free = c.len.result - s.used in
    let rest : s.used + free ≡ s.words.len = omega (arith, s.fits, c.len.ensures) in
    record { rest = omega arith; opens = λ k. room_left s.used free s.words.len rest }
