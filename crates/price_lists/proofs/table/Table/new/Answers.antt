use Rattle.bounded_lists.specs.Lists.{list_refusal}
use Rattle.tariffs.specs.Questions.{boards_refusal}
use Rattle.price_lists.specs.Tables.{price_limit, price_rule}
use Rattle.bounded_lists.proofs.BoundedLists.{legal_list}
use Rattle.bounded_lists.proofs.Refusals.{list_kept}
use Rattle.tariffs.proofs.Refusals.{neither, boards_kept}
use Rattle.price_lists.proofs.table.Table.new.Goals as goal
use Rattle.std.proofs.Common.{◌*◌, arith}

pub invariant_of-result : goal.invariant_of-result
invariant_of-result c =
    let n = c.args.boards in
    let xs = c.args.prices.now in
    let k = neither (boards_refusal n) (list_refusal (price_rule n) xs) c.requires.legal in
    let b = boards_kept n k.0 in
    let l = legal_list (2 * (n * n)) (price_limit n) xs (list_kept (price_rule n) xs k.1) in
    record { least = omega (arith, b.0); most = omega (arith, b.1); sized = omega (arith, l.0); bounded = l.1 }
