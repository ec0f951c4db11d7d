use Rattle.std.proofs.Common.{◌≡◌, ◌+◌, true, length, refl, ◌∙◌, arith}
use Rattle.std.proofs.lemmas.Bool.{le-leb, leb-true}
use Rattle.buses.specs.Buses.{roomy}
use Rattle.buses.proofs.Refilled.{put_kept, put_lists}
use Rattle.links.proofs.Refused.{put_open, board_kept, frame_kept}
use Rattle.buses.proofs.bus.shared.BusLink.put.Goals as goal

pub invariant_of-self : goal.invariant_of-self
invariant_of-self c =
    let s = c.args.self.now in
    let f = c.args.frame.now in
    let ws = c.write.new.words in
    let len : length ws ≡ s.words.len = c.write.auto.words ∙ c.deref_mut.ensures.len in
    let o : roomy s c.args.board ≡ true = c.room.ensures.value.opens c.args.board ∙ le-leb 66 c.room.result (omega arith) in
    let lt = board_kept s.boards c.args.board c.in_ok-check_board.ensures.answer.0 in
    let sized = frame_kept (length f) c.in_ok-check_frame.ensures.answer.0 in
    let done = put_kept s c.deref_mut.result.now ws c.deref_mut.ensures.value len c.args.board f lt sized.0 sized.1 c.write.ensures in
    record { within = s.within; room = s.room; fits = omega (arith, leb-true (s.used + 66) s.words.len o); kept = done.kept; legal = done.legal }

pub returns-clause-answer : goal.returns-clause-answer
returns-clause-answer c =
    let s = c.args.self.now in
    let f = c.args.frame.now in
    let ws = c.write.new.words in
    let len : length ws ≡ s.words.len = c.write.auto.words ∙ c.deref_mut.ensures.len in
    let o : roomy s c.args.board ≡ true = c.room.ensures.value.opens c.args.board ∙ le-leb 66 c.room.result (omega arith) in
    let lt = board_kept s.boards c.args.board c.in_ok-check_board.ensures.answer.0 in
    let sized = frame_kept (length f) c.in_ok-check_frame.ensures.answer.0 in
    let p = put_open s.boards c.args.board (length f) (roomy s c.args.board) lt sized.0 sized.1 o in
    let lists = put_lists s c.deref_mut.result.now ws c.deref_mut.ensures.value len c.args.board f lt sized.0 sized.1 c.write.ensures in
    (p, record { count = refl; lists = lists })
