use Rattle.std.proofs.Common.{◌≡◌, ◌+◌, ◌-◌, ◌≤◌, length, map, get_or}
use Rattle.overlays.proofs.Merging.{Side, Merged}
use Rattle.drawing_parts.proofs.merge.merge.Given as goal

abbrev pub invariant-loop-line : goal.invariant-loop-line
invariant-loop-line l =
    Side l.target (l.line.target + 1) (l.spans + 1) l.line.at (λ k. get_or (map (λ x. x.at) l.lines) k 0) (λ k. get_or (map (λ x. x.target) l.lines) k 0)
    × Side l.source (l.line.source + 1) (l.spans + 1) l.line.at (λ k. get_or (map (λ x. x.at) l.lines) k 0) (λ k. get_or (map (λ x. x.source) l.lines) k 0)
    × Merged l.target l.source (l.line.target + 1) (l.line.source + 1) (l.spans + 1) l.line.at (λ k. get_or (map (λ x. x.at) l.lines) k 0)
    × (l.spans ≤ 63) × (length l.lines ≡ 64)

abbrev pub decreases-loop-line : goal.decreases-loop-line
decreases-loop-line l = l.size - l.line.at
