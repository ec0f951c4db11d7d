use Rattle.std.proofs.Common.{◌≡◌, ℕ, ◌-◌, List, length, take, refl, ap, ◌∙◌, subst, arith}
use Rattle.buses.specs.Buses.{log, queue}
use Rattle.buses.specs.Entries.{Found}
use Rattle.buses.specs.declared.bus.Bus.{Bus}
use Rattle.buses.specs.Carried.{found_waits}
use Rattle.buses.proofs.Refilled.{drop_kept, drop_lists}
use Rattle.buses.proofs.Searched.{found_of}
use Rattle.links.proofs.Refused.{drop_some, board_kept}
use Rattle.buses.proofs.bus.shared.BusLink.discard.Goals as goal

-- what was found in the lent part of the list is found in the log
in_log : (s : Bus) (v : List ℕ) (b at : ℕ) → v ≡ s.words.items → Found b (take (s.used - 0) v) at → Found b (log s) at
in_log s v b at e x =
    let n : s.used - 0 ≡ s.used = omega arith in
    subst (λ (t : List ℕ). Found b t at) (ap (λ (k : ℕ). take k v) n ∙ ap (take s.used) e) x

pub invariant_of-self : goal.invariant_of-self
invariant_of-self c =
    let s = c.args.self.now in
    let ws = c.remove-self.new.words in
    let len : length ws ≡ s.words.len = c.remove-self.auto.words ∙ c.deref_mut.ensures.len in
    let x = in_log s c.deref.result.now c.args.board c.in_ok-at.at c.deref.ensures.value (found_of _ _ _ _ c.in_ok-at.ensures.ok_part c.find.ensures) in
    let done = drop_kept s c.deref_mut.result.now ws c.deref_mut.ensures.value len c.args.board c.in_ok-at.at c.remove-self.result x c.remove-self.ensures.after in
    record { within = s.within; room = s.room; fits = omega (arith, s.fits, c.remove-self.ensures.size); kept = done.kept; legal = done.legal }

pub returns-clause-answer : goal.returns-clause-answer
returns-clause-answer c =
    let s = c.args.self.now in
    let b = c.args.board in
    let ws = c.remove-self.new.words in
    let len : length ws ≡ s.words.len = c.remove-self.auto.words ∙ c.deref_mut.ensures.len in
    let x = in_log s c.deref.result.now b c.in_ok-at.at c.deref.ensures.value (found_of _ _ _ _ c.in_ok-at.ensures.ok_part c.find.ensures) in
    let p = drop_some s.boards b (queue s b) (board_kept s.boards b c.in_ok-check_board.ensures.answer.0) (found_waits b (log s) c.in_ok-at.at x) in
    let lists = drop_lists s c.deref_mut.result.now ws c.deref_mut.ensures.value len b c.in_ok-at.at c.remove-self.result x c.remove-self.ensures.after in
    (p, record { count = refl; lists = lists })
