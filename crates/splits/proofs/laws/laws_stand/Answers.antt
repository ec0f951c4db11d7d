use Rattle.splits.proofs.Blocks.{covered_once}
use Rattle.splits.proofs.Places.{filled, in_parts, all_apart, stepped}
use Rattle.splits.proofs.Sums.{whole}
use Rattle.splits.proofs.laws.laws_stand.Goals as goal

pub returns-clause-once : goal.returns-clause-once
returns-clause-once c = covered_once

pub returns-clause-whole : goal.returns-clause-whole
returns-clause-whole c = whole

pub returns-clause-filled : goal.returns-clause-filled
returns-clause-filled c = filled

pub returns-clause-parts : goal.returns-clause-parts
returns-clause-parts c = in_parts

pub returns-clause-apart : goal.returns-clause-apart
returns-clause-apart c = all_apart

pub returns-clause-stepped : goal.returns-clause-stepped
returns-clause-stepped c = stepped
