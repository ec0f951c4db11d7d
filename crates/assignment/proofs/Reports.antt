-- What the search has found once every role has a board, as an assignment.
use Rattle.std.proofs.Common.{◌≡◌, ℕ, ◌+◌, ◌^◌, ◌<◌, ◌≤◌, pos, ◌+ℤ◌, neg_ℤ, ◌≤ℤ◌, sym, ap, ◌∙◌, subst, arith}
use Rattle.std.proofs.lemmas.Int.{ints}
use Rattle.assignment_laws.specs.Namings.{bill_of}
use Rattle.assignment_costs.specs.declared.costs.Costs.{Costs}
use Rattle.assignment.specs.declared.plan.Assignment.{Assignment}
use Rattle.assignment_search.specs.declared.tree.Matching.{Matching}
use Rattle.assignment_search.specs.declared.tree.Prices.{Prices}
use Rattle.assignment_costs.specs.Costs.{cost_at}
use Rattle.assignment.specs.Plans.{name_of, role_price, board_price, Certified}
use Rattle.assignment_laws.specs.Judging.{Within}
use Rattle.assignment_search.specs.Search.{val, mate}
use Rattle.assignment_search.specs.Trees.{Full}

-- prices as integers
price_within : (u : ℕ) → u ≤ 2 ^ 44 → Within (pos u)
price_within u l = (omega (arith, ints), omega (arith, ints))

discount_within : (w : ℕ) → w ≤ 2 ^ 44 → Within (neg_ℤ (pos w))
discount_within w l = (omega (arith, ints), omega (arith, ints))

price_feasible : (u w k : ℕ) → u ≤ k + w → (pos u +ℤ neg_ℤ (pos w)) ≤ℤ pos k
price_feasible u w k l = omega (arith, ints)

price_tight : (u w k : ℕ) → u ≡ k + w → pos u +ℤ neg_ℤ (pos w) ≡ pos k
price_tight u w k l = omega (arith, ints)

module _
    (c : Costs) (p : Prices) (m : Matching) (a : Assignment)
    (full : Full c p m)
    (shown : (k : ℕ) → k < c.boards → (name_of a k ≡ mate m.naming k) × (role_price a k ≡ pos (val p.roles k)) × (board_price a k ≡ neg_ℤ (pos (val p.discounts k)))) where
  pub shown_below : (x : ℕ) → x < c.boards → name_of a x < c.boards
  shown_below x l = omega (arith, (shown x l).0, full.matched.named x l)

  shown_tight : (x : ℕ) → x < c.boards → val p.roles x ≡ cost_at c x (name_of a x) + val p.discounts (name_of a x)
  shown_tight x l =
      let y : ℕ = name_of a x in
      let own : mate m.owner y ≡ x = ap (mate m.owner) (shown x l).0 ∙ (full.matched.back x l (full.matched.named x l)).0 in
      subst (λ z. val p.roles z ≡ cost_at c z y + val p.discounts y) own
      (full.held y (shown_below x l) (λ q. omega (arith, c.most, shown_below x l)) (omega (arith, own, c.most)))

  pub shown_certified : a.bill ≡ bill_of (cost_at c) c.boards (name_of a) → Certified c a
  shown_certified bill =
      record {
        permutation =
            record {
              below = shown_below;
              apart = λ x y l k q.
                  let same : mate m.naming x ≡ mate m.naming y = sym (shown x l).0 ∙ q ∙ (shown y k).0 in
                  sym (full.matched.back x l (full.matched.named x l)).0 ∙ ap (mate m.owner) same ∙ (full.matched.back y k (full.matched.named y k)).0;
            };
        within = λ x l. (
          subst Within (sym (shown x l).1) (price_within (val p.roles x) (full.fair.low_roles x l)),
          subst Within (sym (shown x l).2) (discount_within (val p.discounts x) (full.fair.low_boards x l)),
        );
        feasible = λ x y l k.
            subst (λ z. (z +ℤ board_price a y) ≤ℤ pos (cost_at c x y)) (sym (shown x l).1)
            (subst (λ z. (pos (val p.roles x) +ℤ z) ≤ℤ pos (cost_at c x y)) (sym (shown y k).2)
            (price_feasible (val p.roles x) (val p.discounts y) (cost_at c x y) (full.fair.feasible x y l k)));
        tight = λ x l.
            let y : ℕ = name_of a x in
            subst (λ z. z +ℤ board_price a y ≡ pos (cost_at c x y)) (sym (shown x l).1)
            (subst (λ z. pos (val p.roles x) +ℤ z ≡ pos (cost_at c x y)) (sym (shown y (shown_below x l)).2)
            (price_tight (val p.roles x) (val p.discounts y) (cost_at c x y) (shown_tight x l)));
        bill = bill;
      }
