-- What is written of a plan is read as that plan.
use Rattle.std.proofs.Common.{◌≡◌, ℕ, ◌-◌, ◌≤◌, List, ◌++◌, length, take, drop, IfOk, None, Ok, Err, Result, sym, ap, ◌∙◌, subst, arith}
use Rattle.std.proofs.lemmas.List.{take_at}
use Rattle.faults.specs.Answers.{Answers}
use Rattle.faults.specs.declared.fault.Call.TheVariants.{Read, Write}
use Rattle.faults.specs.declared.fault.Fault.{Fault}
use Rattle.faults.specs.declared.fault.Layer.TheVariants.{Plans}
use Rattle.plans.specs.Sheet.{SheetOf, Written, read_refusal, sheet, sheet_length, write_refusal}
use Rattle.plans.specs.declared.plan.Plan.{Plan}
use Rattle.plans.proofs.OneSheet.{sheets_are_one}
use Rattle.plans.proofs.ReadBack.{sheet_long, sheet_read_back}
use Rattle.plans.proofs.Refusals.{none_from_legal}
use Rattle.std.proofs.lemmas.Option.{none-some}

module _ (p : Plan) (before after : List ℕ) (k : ℕ) (written : Written p before k after) where
  pub front_is : take (k - 0) after ≡ sheet p
  front_is =
      let long : length (sheet p) ≡ k - 0 = omega (arith, sheet_long p written.legal, written.len) in
      ap (take (k - 0)) written.is ∙ take_at (sheet p) (drop k before) (k - 0) long

  pub back_again : (bs : List ℕ) (r : Result Plan Fault) → write_refusal p (length before) ≡ None → bs ≡ sheet p
      → Answers Plans Read (read_refusal bs) r (λ q. SheetOf q bs) (Unit {0})
      → Answers Plans Write (write_refusal p (length before)) r (λ q. (q ≡ p) × Written p before (sheet_length p.boards) after) (after ≡ before)
  back_again bs (Ok q) none is (read, sheet_is) =
      (none, (sheets_are_one q p bs sheet_is (record { legal = written.legal; is = is }), subst (λ i. Written p before i after) written.len written))
  back_again bs (Err f) none is (refused, layer, call, same) =
      absurd (none-some f.cause (sym (sym refused ∙ ap read_refusal is ∙ sheet_read_back p written.legal)))

-- what is read is written as it was
pub echoed : (p : Plan) (bs before after : List ℕ) (r : Result ℕ Fault) → length before ≡ 809 → read_refusal bs ≡ None → SheetOf p bs
    → Answers Plans Write (write_refusal p (length before)) r (λ k. Written p before k after) (after ≡ before)
    → Answers Plans Read (read_refusal bs) r (λ k. (k ≡ length bs) × (after ≡ bs ++ drop k before)) (after ≡ before)
echoed p bs before after (Ok k) size none sheet_is (accepted, written) = (
  none,
  (written.len ∙ sym (ap length sheet_is.is ∙ sheet_long p sheet_is.legal), written.is ∙ ap (λ t. t ++ drop k before) (sym sheet_is.is)),
)
echoed p bs before after (Err f) size none sheet_is (refused, layer, call, same) =
    absurd (none-some f.cause (sym (none_from_legal p (length before) sheet_is.legal (omega (arith, sheet_is.legal.few))) ∙ refused))

pub echo_bound : (p : Plan) (before after : List ℕ) (r : Result ℕ Fault)
    → Answers Plans Write (write_refusal p (length before)) r (λ k. Written p before k after) (after ≡ before) → IfOk r (λ k. k ≤ 809)
echo_bound p before after (Ok k) (accepted, written) = omega (arith, written.len, written.legal.few)
echo_bound p before after (Err f) refused = tt
