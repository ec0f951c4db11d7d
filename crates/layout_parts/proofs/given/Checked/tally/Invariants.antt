use Rattle.std.proofs.Common.{◌≡◌, ℕ, ◌<◌, ◌≤◌, length, get_or}
use Rattle.splits.specs.Places.{start, held}
use Rattle.layout_parts.specs.Given.{checked_grid}
use Rattle.layout_parts.proofs.given.Checked.tally.Given as goal

abbrev pub invariant-loop-b : goal.invariant-loop-b
invariant-loop-b l = record {
  started : (k : ℕ) → k < l.b → get_or l.starts k 0 ≡ start (checked_grid l.self) k;
  tallied : (p : ℕ) → p < 16 → get_or l.totals p 0 ≡ held (checked_grid l.self) p l.b;
  long : (length l.starts ≡ 1024) × (length l.totals ≡ 16);
  blank : (k : ℕ) → l.b ≤ k → get_or l.starts k 0 ≡ 0;
}
