-- Checks whose causes are those of a call, and what holds of equal prices.
use Rattle.std.proofs.Common.{◌≡◌, ℕ, Bool, Some, None, Option, Ok, Err, Result, sym, refl, ap, ◌∙◌, subst}
use Rattle.std.specs.Option.{option_or}
use Rattle.std.specs.Prelude.{MatchResult}
use Rattle.std.specs.Result.{IsErrAnd}
use Rattle.drawings.specs.declared.drawing.Drawing.{Drawing}
use Rattle.faults.specs.Answers.{Answers}
use Rattle.faults.specs.Checks.{Checks}
use Rattle.faults.specs.declared.cause.Cause.{Cause}
use Rattle.faults.specs.declared.fault.Call.{Call}
use Rattle.faults.specs.declared.fault.Fault.{Fault}
use Rattle.faults.specs.declared.fault.Layer.{Layer}
use Rattle.plans.specs.declared.plan.Plan.{Plan}
use Rattle.settling.specs.Prices.{count_refusal}
use Rattle.settling.specs.Settling.{adopt_refusal, plan_refusal}
use Rattle.tariffs.specs.declared.question.Question.{Question}

-- a call's cause is passed on
pub judged : {T A B : Type 0} (layer : Layer) (call : Call) (o p : Option Cause) (r : Result T Fault) (s : Result T Cause) → o ≡ p → (A → B)
    → Answers layer call p r (λ _. A) (Unit {0}) → MatchResult r (λ x. s ≡ Ok x) (λ f. IsErrAnd s (λ why. why ≡ f.cause)) → Checks o s (λ _. B)
judged {B = B} layer call o p (Ok x) s e g a m = subst (λ z. Checks o z (λ _. B)) (sym m) (e ∙ a.0, g a.1)
judged layer call o p (Err f) (Ok x) e g a m = absurd m
judged layer call o p (Err f) (Err why) e g a m = e ∙ a.0 ∙ ap Some (sym m)

-- what holds of some prices, drawing, width and mark holds of equal ones
pub moved : (P : (Question → ℕ) → Drawing → ℕ → Bool → Type 0) {f g : Question → ℕ} {d e : Drawing} {v w : ℕ} {s t : Bool}
    → f ≡ g → d ≡ e → v ≡ w → s ≡ t → P f d v s → P g e w t
moved P {g = g} {d = d} {e = e} {v = v} {w = w} {s = s} {t = t} a b c h x =
    subst (λ z. P g e w z) h (subst (λ z. P g e z s) c (subst (λ z. P g z v s) b (subst (λ z. P z d v s) a x)))

-- where the tariff has the drawing's boards, what refuses to adopt a plan is what refuses the plan
pub adopt_same : {f g : Question → ℕ} {d e : Drawing} {v w : ℕ} {s t : Bool} (n : ℕ) (p : Plan)
    → f ≡ g → d ≡ e → v ≡ w → s ≡ t → count_refusal e n ≡ None → adopt_refusal g e w t n p ≡ plan_refusal f d v s p
adopt_same {f = f} {g = g} {d = d} {e = e} {v = v} {w = w} {s = s} {t = t} n p a b c h k =
    ap (λ o. option_or o (plan_refusal g e w t p)) k
    ∙ sym (moved (λ f' d' v' s'. plan_refusal f d v s p ≡ plan_refusal f' d' v' s' p) a b c h refl)
