-- Plans with the prices of their packages, made or adopted for a drawing. Assumes nothing.
--     Settles price d w t s    s has a plan for the drawing's boards that is certified by the costs, so that no naming costs
--                              less, and the price of each package under the plan's naming; the bill is the sum of these
--     plan_refusal price d w t p    8 for the plan's count of boards, then 9 for the first role that fails
--     adopt_refusal ..         8 for the tariff's count of boards, then what refuses the plan
use Rattle.std.specs.Prelude.{◌≡◌, ℕ, ◌<◌, Bool, Option}
use Rattle.std.specs.Option.{option_map, option_or}
use Rattle.assignment_laws.specs.Judging.{Certified, wrong_role}
use Rattle.assignment_laws.specs.Namings.{Least}
use Rattle.drawings.specs.declared.drawing.Drawing.{Drawing}
use Rattle.faults.specs.declared.cause.Cause.{Cause}
use Rattle.faults.specs.declared.cause.Cause.TheVariants as cause
use Rattle.plans.specs.declared.plan.Plan.{Plan}
use Rattle.settling.specs.Prices.{cost_of, question, count_refusal}
use Rattle.settling.specs.Records.{BlankPast, Summed, name_in, price_at, proposed}
use Rattle.settling.specs.declared.settlement.Settlement.{Settlement}
use Rattle.tariffs.specs.declared.question.Question.{Question}

pub record Settles (price : Question → ℕ) (d : Drawing) (w : ℕ) (t : Bool) (s : Settlement) : Type 0 where
  pub boards : s.plan.boards ≡ d.target.boards
  pub certified : Certified (cost_of price d w t) d.target.boards (proposed s.plan)
  pub least : Least (cost_of price d w t) d.target.boards s.plan.bill
  pub prices : (i x : ℕ) → i < d.target.boards → x < d.target.boards → price_at s.prices i x ≡ price (question d w t i x (name_in s.plan x))
  pub past : BlankPast d.target.boards s.prices
  pub summed : Summed s.plan s.prices

abbrev pub plan_refusal : (Question → ℕ) → Drawing → ℕ → Bool → Plan → Option Cause
plan_refusal price d w t p = option_or (count_refusal d p.boards) (option_map cause.Plan (wrong_role (cost_of price d w t) d.target.boards (proposed p)))

abbrev pub adopt_refusal : (Question → ℕ) → Drawing → ℕ → Bool → ℕ → Plan → Option Cause
adopt_refusal price d w t n p = option_or (count_refusal d n) (plan_refusal price d w t p)
