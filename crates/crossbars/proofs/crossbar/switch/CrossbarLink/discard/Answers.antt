use Rattle.std.proofs.Common.{◌≡◌, ◌<◌, false, length, get_or, sym, refl, ap, ◌∙◌, arith}
use Rattle.crossbars.specs.Crossbars.{queue, content}
use Rattle.links.specs.Frames.{none_waits, younger}
use Rattle.links.proofs.Refused.{drop_some, board_kept}
use Rattle.crossbars.specs.Tables.{queue_at, younger_held, changed_by}
use Rattle.crossbars.proofs.crossbar.switch.CrossbarLink.discard.Goals as goal

pub returns : goal.returns
returns c =
    let s = c.args.self.now in
    let b = c.args.board in
    let d = c.index-self-board.result in
    let x = get_or s.inboxes b d in
    let kept = board_kept s.boards b c.in_ok-check_board.ensures.answer.0 in
    let lt : b < length s.inboxes = omega (arith, kept, s.within, s.sized) in
    let q : queue s b ≡ content x = queue_at s.inboxes b d lt in
    let o : none_waits (queue s b) ≡ false = ap none_waits q ∙ sym c.if-is_empty.ensures in
    let p = drop_some s.boards b (queue s b) kept o in
    let y : content c.clear.new.self ≡ younger (queue s b) = c.clear.ensures ∙ sym (ap younger q ∙ younger_held x.words x.used) in
    record { answer = (p, record { count = refl; lists = changed_by s.inboxes b c.clear.new.self lt younger y }) }
