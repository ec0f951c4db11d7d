use Rattle.std.proofs.Common.{◌≡◌, ℕ, ◌+◌, ◌-◌, List, ◌++◌, length, get_or, take, drop, ap, ◌∙◌, subst, arith}
use Rattle.buses.specs.Buses.{log, queue}
use Rattle.buses.specs.Entries.{Found}
use Rattle.buses.specs.Carried.{found_waits, found_looked}
use Rattle.buses.proofs.Refilled.{bus_whole}
use Rattle.buses.proofs.Searched.{found_of}
use Rattle.links.proofs.Refused.{look_some, board_kept, buffer_kept}
use Rattle.buses.proofs.bus.shared.BusLink.look.Goals as goal

pub returns : goal.returns
returns c =
    let s = c.args.self.now in
    let b = c.args.board in
    let room = c.args.buffer.now in
    let at = c.in_ok-at.at in
    let len = c.copy.result in
    let after = c.copy.new.buffer in
    let xs : List ℕ = take (s.used - 0) c.deref.result.now in
    let n : s.used - 0 ≡ s.used = omega arith in
    let is : xs ≡ log s = ap (λ (k : ℕ). take k c.deref.result.now) n ∙ ap (take s.used) c.deref.ensures.value in
    let x : Found b (log s) at = subst (λ (t : List ℕ). Found b t at) is (found_of _ _ _ _ c.in_ok-at.ensures.ok_part c.find.ensures) in
    let size : len ≡ get_or (log s) (at + 1) 0 = subst (λ (t : List ℕ). len ≡ get_or t (at + 1) 0) is c.copy.ensures.size in
    let copied : after ≡ take len (drop (at + 2) (log s)) ++ drop len room = subst (λ (t : List ℕ). after ≡ take len (drop (at + 2) t) ++ drop len room) is c.copy.ensures.copied in
    let p = look_some s.boards b (length room) (queue s b) (board_kept s.boards b c.in_ok-check_board.ensures.answer.0) (buffer_kept (length room) c.in_ok-check_buffer.ensures.answer.0) (found_waits b (log s) at x) in
    record { answer = (p, found_looked s.boards b at (log s) (bus_whole s) x len room after size copied) }
