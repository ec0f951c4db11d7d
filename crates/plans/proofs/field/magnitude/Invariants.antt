use Rattle.std.proofs.Common.{◌≡◌, ◌^◌, ◌<◌, drop}
use Rattle.sheets.specs.Text.{spelled}
use Rattle.plans.proofs.field.magnitude.Given as goal

abbrev pub invariant-loop-b : goal.invariant-loop-b
invariant-loop-b l = (l.sum < 10 ^ l.b-index) × (spelled l.sum (drop l.b-index l.field) ≡ spelled 0 l.field)
