-- Plans and assignments are judged alike, and the bills of certified plans are the sums of the recorded prices.
use Rattle.std.proofs.Common.{◌≡◌, ℕ, ◌<◌, Bool, List, None, sym, ap, ◌∙◌, subst, arith}
use Rattle.std.proofs.lemmas.Bool.Decides.{nat_tests}
use Rattle.std.specs.Option.{option_map, option_or}
use Rattle.assignment.proofs.Proposals.{to_proposal}
use Rattle.assignment.specs.Plans as plans
use Rattle.assignment.specs.Plans.{board_price, judge_refusal, name_of, proposal, role_price}
use Rattle.assignment.specs.declared.plan.Assignment.{Assignment}
use Rattle.assignment_costs.specs.Costs.{cost_at}
use Rattle.assignment_costs.specs.declared.costs.Costs.{Costs}
use Rattle.assignment_laws.proofs.Same.{certified_same, wrong_same}
use Rattle.assignment_laws.proofs.Totals.{total_same}
use Rattle.assignment_laws.specs.Judging.{Certified, wrong_role}
use Rattle.assignment_laws.specs.Namings.{total}
use Rattle.drawings.specs.declared.drawing.Drawing.{Drawing}
use Rattle.faults.specs.declared.cause.Cause.TheVariants as cause
use Rattle.plans.specs.Plans.{line_of}
use Rattle.plans.specs.declared.plan.Plan.{Plan}
use Rattle.settling.specs.Prices.{Costed, cost_of, count_refusal, question}
use Rattle.settling.specs.Records.{Summed, name_in, price_at, proposed}
use Rattle.settling.specs.Settling.{plan_refusal}
use Rattle.tariffs.specs.declared.question.Question.{Question}

-- what is not refused has the drawing's boards
pub fits : (d : Drawing) (n : ℕ) → count_refusal d n ≡ None → n ≡ d.target.boards
fits d n e = grind (arith, nat_tests)

-- an assignment and a plan that say the same, by a table of the costs and by the costs
module _ (price : Question → ℕ) (d : Drawing) (w : ℕ) (t : Bool) (c : Costs) (costed : Costed price d w t c) (a : Assignment) (p : Plan)
    (lines : (x : ℕ) → x < d.target.boards → (name_of a x ≡ (line_of p x).board) × (role_price a x ≡ (line_of p x).u) × (board_price a x ≡ (line_of p x).v))
    (bill : a.bill ≡ p.bill) where
  pub certified_plan : plans.Certified c a → Certified (cost_of price d w t) d.target.boards (proposed p)
  certified_plan k =
      certified_same (cost_at c) (cost_of price d w t) d.target.boards (proposal a) (proposed p) costed.entries
      (λ x l. (lines x l).0)
      (λ x l. (lines x l).1)
      (λ x l. (lines x l).2)
      bill
      (subst (λ n. Certified (cost_at c) n (proposal a)) costed.count (to_proposal c a k))

  pub judged_plan : wrong_role (cost_at c) c.boards (proposal a) ≡ wrong_role (cost_of price d w t) d.target.boards (proposed p)
  judged_plan =
      ap (λ n. wrong_role (cost_at c) n (proposal a)) costed.count
      ∙ wrong_same (cost_at c) (cost_of price d w t) d.target.boards (proposal a) (proposed p) costed.entries
      (λ x l. (lines x l).0)
      (λ x l. (lines x l).1)
      (λ x l. (lines x l).2)
      bill

  -- what judges the assignment by the table judges the plan by the costs
  pub refused_plan : count_refusal d p.boards ≡ None → plan_refusal price d w t p ≡ judge_refusal c a
  refused_plan f =
      ap (λ o. option_or o (option_map cause.Plan (wrong_role (cost_of price d w t) d.target.boards (proposed p)))) f
      ∙ ap (option_map cause.Plan) (sym judged_plan)

module _ (price : Question → ℕ) (d : Drawing) (w : ℕ) (t : Bool) (p : Plan) (prices : List ℕ)
    (count : p.boards ≡ d.target.boards)
    (certified : Certified (cost_of price d w t) d.target.boards (proposed p))
    (recorded : (i x : ℕ) → i < d.target.boards → x < d.target.boards → price_at prices i x ≡ price (question d w t i x (name_in p x))) where
  pub bill_summed : Summed p prices
  bill_summed =
      certified.bill
      ∙ total_same (λ x. cost_of price d w t x (name_in p x)) (λ x. total (λ i. price_at prices i x) d.target.boards) d.target.boards
      (λ x l.
      total_same (λ i. price (question d w t i x (name_in p x))) (λ i. price_at prices i x) d.target.boards (λ i m. sym (recorded i x m l)))
      ∙ ap (λ n. total (λ x. total (λ i. price_at prices i x) n) n) (sym count)
