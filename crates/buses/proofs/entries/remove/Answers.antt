use Rattle.std.proofs.Common.{ℕ, ◌+◌, ◌-◌, ◌≤◌, List, get_or, take, ap, ◌∙◌, arith}
use Rattle.buses.proofs.Written.{slid}
use Rattle.buses.proofs.entries.remove.Goals as goal

pub returns-clause-after : goal.returns-clause-after
returns-clause-after c =
    let w = c.args.words.now in
    let at = c.args.at in
    let used = c.args.used in
    let next = at + 2 + get_or w (at + 1) 0 in
    let l : next ≤ used = c.requires.inside in
    ap (λ (t : List ℕ). take (used - (next - at)) t) c.copy_within.ensures.after ∙ slid w at next used (used - (next - at)) (omega arith) l c.requires.used (omega arith)
