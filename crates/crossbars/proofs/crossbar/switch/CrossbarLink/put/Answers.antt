use Rattle.std.proofs.Common.{◌≡◌, ℕ, ◌<◌, true, List, [], ◌∷◌, ◌++◌, length, get_or, sym, refl, ap, ◌∙◌, arith}
use Rattle.crossbars.specs.Crossbars.{queue, content}
use Rattle.links.specs.Frames.{none_waits}
use Rattle.links.proofs.Refused.{put_open, board_kept, frame_kept}
use Rattle.crossbars.specs.Tables.{queue_at, none_is, changed_by}
use Rattle.crossbars.proofs.crossbar.switch.CrossbarLink.put.Goals as goal

pub returns : goal.returns
returns c =
    let s = c.args.self.now in
    let b = c.args.board in
    let f = c.args.frame.now in
    let d = c.index-self-board.result in
    let x = get_or s.inboxes b d in
    let kept = board_kept s.boards b c.in_ok-check_board.ensures.answer.0 in
    let lt : b < length s.inboxes = omega (arith, kept, s.within, s.sized) in
    let q : queue s b ≡ content x = queue_at s.inboxes b d lt in
    let o : none_waits (queue s b) ≡ true = ap none_waits q ∙ sym c.if-not-is_empty.ensures in
    let sized = frame_kept (length c.args.frame.now) c.in_ok-check_frame.ensures.answer.0 in
    let p = put_open s.boards b (length f) (none_waits (queue s b)) kept sized.0 sized.1 o in
    let y : content c.fill.new.self ≡ queue s b ++ f ∷ [] = c.fill.ensures ∙ ap (λ (fs : List (List ℕ)). fs ++ f ∷ []) (sym (none_is (queue s b) o)) in
    record { answer = (p, record { count = refl; lists = changed_by s.inboxes b c.fill.new.self lt (λ (fs : List (List ℕ)). fs ++ f ∷ []) y }) }
