-- the tables have what the lines before this one say
use Rattle.std.proofs.Common.{◌≡◌, ℕ, ◌<◌, length, get_or, pos}
use Rattle.plans.specs.Plans.{line_of}
use Rattle.settling.proofs.bridge.assignment_of.Given as goal

abbrev pub invariant-loop-x : goal.invariant-loop-x
invariant-loop-x l =
    (length l.naming ≡ 16)
    × (length l.roles ≡ 16)
    × (length l.boards ≡ 16)
    × ((x : ℕ) → x < l.x → get_or l.naming x 0 ≡ (line_of l.plan x).board)
    × ((x : ℕ) → x < l.x → get_or l.roles x (pos 0) ≡ (line_of l.plan x).u)
    × ((x : ℕ) → x < l.x → get_or l.boards x (pos 0) ≡ (line_of l.plan x).v)
