use Rattle.std.proofs.Common.{length, replicate, ap, ◌∙◌, arith}
use Rattle.std.proofs.lemmas.List.{drop-replicate}
use Rattle.std.proofs.lemmas.Slice.{drop-append-drop}
use Rattle.layout_parts.proofs.fill.table.Goals as goal

pub returns-clause-rest : goal.returns-clause-rest
returns-clause-rest g c =
    let k = length c.args.items.now in
    drop-append-drop k (replicate g.row.N c.args.blank) c.copy_from_slice.new.self k (omega arith) (ap length c.copy_from_slice.ensures.after)
    ∙ drop-replicate k g.row.N c.args.blank
