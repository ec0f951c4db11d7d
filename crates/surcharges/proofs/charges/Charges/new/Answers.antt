use Rattle.std.proofs.Common.{◌≡◌, ◌-◌, ◌≤◌, ◌++◌, length, get_or, drop, replicate, None, sym, ap, ◌∙◌, subst, arith}
use Rattle.std.proofs.lemmas.List.{length-take-le}
use Rattle.surcharges.specs.Surcharges.{charge_rule, charge_table}
use Rattle.bounded_lists.specs.Lists.{list_refusal}
use Rattle.surcharges.proofs.ChargeTables.{one_limit, charges_kept, length-charge_table, append_bound, table_from}
use Rattle.surcharges.proofs.charges.Charges.new.Goals as goal

pub copy_from_slice-requires : goal.copy_from_slice-requires
copy_from_slice-requires g c =
    let n = c.board_count-boards.result in
    let k = charges_kept n c.args.list.now (one_limit n c.args.list.now c.in_ok-check_list.ensures.answer.0) in
    let few : n ≤ 16 = omega (arith, c.board_count-boards.ensures.value, (g.T.Tariff.laws c.args.inner.now).most) in
    length-take-le n (replicate 16 0) few ∙ sym k.0

pub invariant_of-result : goal.invariant_of-result
invariant_of-result g c =
    let n = c.board_count-boards.result in
    let xs = c.args.list.now in
    let k = charges_kept n xs (one_limit n xs c.in_ok-check_list.ensures.answer.0) in
    let few : n ≤ 16 = omega (arith, c.board_count-boards.ensures.value, (g.T.Tariff.laws c.args.inner.now).most) in
    let e = ap (λ t. t ++ drop n (replicate 16 0)) c.copy_from_slice.ensures.after ∙ table_from xs n ∙ ap (λ m. charge_table m xs) (sym k.0) in
    record {
      sized = ap length e ∙ length-charge_table xs (omega (arith, k.0, few));
      bounded = λ i. subst (λ t. get_or t i 0 ≤ 1000) (sym e) (append_bound xs (16 - length xs) k.1 i);
    }

pub returns : goal.returns
returns g c =
    let n = c.board_count-boards.result in
    let xs = c.args.list.now in
    let e = ap (λ t. t ++ drop n (replicate 16 0)) c.copy_from_slice.ensures.after ∙ table_from xs n in
    record { answer = subst (λ m. (list_refusal (charge_rule m) xs ≡ None) × (c.copy_from_slice.new.self ++ drop n (replicate 16 0) ≡ charge_table m xs)) c.board_count-boards.ensures.value (one_limit n xs c.in_ok-check_list.ensures.answer.0, e) }
