use Rattle.std.proofs.Common.{◌≡◌, ℕ, ◌<◌, true, length, sym, subst}
use Rattle.links.proofs.Refused.{put_open}
use Rattle.links_tests.proofs.Received.{not_both, alone, looked}
use Rattle.links_tests.proofs.carry.put_and_look.Goals as goal

pub returns-in_err-put : goal.returns-in_err-put
returns-in_err-put g c q l f h =
    let s = c.args.link.now in
    let b = c.args.board in
    let o : g.L.Link.ready s b ≡ true = g.met.L.Link.opens s q b l in
    let p = put_open (g.L.Link.boards s) b (length c.args.frame.now) (g.L.Link.ready s b) l f.0 f.1 o in
    absurd (not_both _ _ p c.in_err-put.ensures.answer.0)

pub returns : goal.returns
returns g c q l f h =
    let s = c.args.link.now in
    let t = c.put.new.self in
    let b = c.args.board in
    let done = c.in_ok-put.ensures.answer.1 in
    let lt : b < g.L.Link.boards t = subst (λ (n : ℕ). b < n) (sym done.count) l in
    looked g.L.Link.boards g.L.Link.waiting b c.args.frame.now t c.args.buffer.now c.look.result c.look.new.buffer c.look.ensures.answer lt h
    (alone g.L.Link.boards g.L.Link.waiting b c.args.frame.now s t done (q b l))
