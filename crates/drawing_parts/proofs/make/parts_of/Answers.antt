use Rattle.std.proofs.Common.{refl}
use Rattle.drawing_parts.proofs.Making.{columns_cut, cuts_as, rows_cut, turned_now}
use Rattle.drawing_parts.proofs.make.parts_of.Goals as goal
use Rattle.layouts.proofs.Layouts.{sound}

pub merge-requires-clause-target_cuts : goal.merge-requires-clause-target_cuts
merge-requires-clause-target_cuts c = cuts_as _ _ _ _ refl c.row_splits.ensures.value (sound c.args.target.now).row_side

pub merge-requires-clause-source_cuts : goal.merge-requires-clause-source_cuts
merge-requires-clause-source_cuts c =
    cuts_as _ _ _ _ refl (turned_now c.args.operation _ _ _ _ _ c.turned.ensures.value c.row_splits-rows.ensures.value c.column_splits-columns.ensures.value)
    (rows_cut c.args.operation c.args.target.now c.args.source.now c.requires)

pub merge-requires-2-clause-target_cuts : goal.merge-requires-2-clause-target_cuts
merge-requires-2-clause-target_cuts c = cuts_as _ _ _ _ refl c.column_splits.ensures.value (sound c.args.target.now).column_side

pub merge-requires-2-clause-source_cuts : goal.merge-requires-2-clause-source_cuts
merge-requires-2-clause-source_cuts c =
    cuts_as _ _ _ _ refl (turned_now c.args.operation _ _ _ _ _ c.turned-2.ensures.value c.column_splits-columns.ensures.value c.row_splits-rows.ensures.value)
    (columns_cut c.args.operation c.args.target.now c.args.source.now c.requires)
