use Rattle.std.proofs.Common.{◌≡◌, ◌+◌, ◌-◌, length, take, sym, refl, ap, ◌∙◌, arith}
use Rattle.splits.specs.Blocks.{blocks}
use Rattle.splits.specs.Owners.{owner_rule}
use Rattle.splits.specs.Places.{start, total}
use Rattle.splits.specs.Splits.{split_rule}
use Rattle.layout_parts.specs.Given.{checked_grid}
use Rattle.layout_parts.proofs.Checked.{sound, counted, owners_few, rows_held, columns_held, owners_held, grid_held}
use Rattle.layout_parts.proofs.Making.{faultless}
use Rattle.layout_parts.proofs.given.Checked.fill.Goals as goal

pub table-requires : goal.table-requires
table-requires c = (omega arith, (sound c.args.self).row_side.short)

pub table-requires-2 : goal.table-requires-2
table-requires-2 c = (omega arith, (sound c.args.self).column_side.short)

pub table-requires-3 : goal.table-requires-3
table-requires-3 c = (omega arith, owners_few c.args.self)

-- the tables hold the given lists, so what is promised of the lists is true of the tables
pub returns : goal.returns
returns c =
    let k = c.args.self in
    let n = k.given.boards in
    let rs = k.given.row_splits.now in
    let cs = k.given.column_splits.now in
    let os = k.given.owners.now in
    let tr = c.table.result in
    let tc = c.table-2.result in
    let to = c.table-3.result in
    let er : take (length rs) tr ≡ rs = c.table.ensures.items in
    let ec : take (length cs) tc ≡ cs = c.table-2.ensures.items in
    let eo : take (length os) to ≡ os = c.table-3.ensures.items in
    let same = grid_held k tr tc to er ec eo in
    record {
      order = refl;
      down = (omega (arith, (sound k).row_side.long), omega (arith, (sound k).row_side.short));
      across = (omega (arith, (sound k).column_side.long), omega (arith, (sound k).column_side.short));
      tabled = (c.table.ensures.len, c.table-2.ensures.len, c.table-3.ensures.len, c.tally.ensures.len.0, c.tally.ensures.len.1);
      rowed = faultless (split_rule k.given.rows) (take (length rs - 1 + 1) tr) rs (rows_held k tr tc to er ec eo) k.buildable.row_splits;
      columned = faultless (split_rule k.given.columns) (take (length cs - 1 + 1) tc) cs (columns_held k tr tc to er ec eo) k.buildable.column_splits;
      owned = faultless (owner_rule (blocks (checked_grid k)) n) (take (blocks (checked_grid k)) to) os (owners_held k tr tc to er ec eo) k.buildable.owners;
      lists = same;
      row_rest = c.table.ensures.rest;
      column_rest = c.table-2.ensures.rest;
      owner_rest = c.table-3.ensures.rest;
      starts = λ b l. c.tally.ensures.starts b (omega (arith, counted k, l)) ∙ ap (λ g. start g b) (sym same);
      start_rest = c.tally.ensures.rest;
      totals = λ q l. c.tally.ensures.totals q l ∙ ap (λ g. total g q) (sym same);
    }
