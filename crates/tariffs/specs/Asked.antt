-- What is known of a question that is answered; a proof, which the laws of each tariff rest on.
--     passed       where the rule on top does not apply, its test passed and the rules below it decide
--     asked n q    an answered question names two boards and has at most most_bytes
use Rattle.std.specs.Prelude.{◌≡◌, ℕ, ◌<◌, ◌≤◌, Bool, true, false, cond, Some, None, Option, nat_le, nat_lt, refl}
use Rattle.std.proofs.Common.{arith}
use Rattle.std.proofs.lemmas.Bool.{ltb-true, leb-true}
use Rattle.faults.specs.declared.cause.Cause.{Cause}
use Rattle.tariffs.specs.Questions.{most_bytes, ask_refusal}
use Rattle.tariffs.specs.declared.question.Question.{Question}

never : (c : Cause) → ◌≡◌ {A = Option Cause} (Some c) None → ⊥
never c e = let z : ◌≡◌ {A = ℕ} 0 1 = cc in omega arith

pub passed : (b : Bool) (o : Option Cause) (c : Cause) → cond b o (Some c) ≡ None → (b ≡ true) × (o ≡ None)
passed true o c e = (refl, e)
passed false o c e = absurd (never c e)

pub asked : (n : ℕ) (q : Question) → ask_refusal n q ≡ None → (q.sender < n) × (q.receiver < n) × (q.bytes ≤ most_bytes)
asked n q e =
    let s = passed (nat_lt q.sender n) _ _ e in
    let r = passed (nat_lt q.receiver n) _ _ s.1 in
    let b = passed (nat_le q.bytes most_bytes) _ _ r.1 in
    (ltb-true q.sender n s.0, ltb-true q.receiver n r.0, leb-true q.bytes most_bytes b.0)
