-- What the rule of owners comes to: a legal table owns its blocks.
use Rattle.std.proofs.Common.{◌≡◌, ℕ, zero, suc, ◌+◌, ◌<◌, eqb, ltb, List, [], ◌∷◌, length, get_or, Some, None, Option, inl, inr, arith, sym}
use Rattle.std.proofs.lemmas.Bool.{cases_Bool, and_parts, eqb-true, ltb-true}
use Rattle.wrong_lists.specs.Lists.{wrong_from, Legal}
use Rattle.splits.specs.Owners.{owner_rule, Owned}
use Rattle.std.proofs.lemmas.Option.{none-some}
use Rattle.wrong_lists.proofs.Rules.{stands}

record From (blocks boards k : ℕ) (xs : List ℕ) : Type 0 where
  long : k + length xs ≡ blocks
  below : (b : ℕ) → b < length xs → get_or xs b 0 < boards

from : (blocks boards : ℕ) (xs : List ℕ) (k : ℕ) (before : Option ℕ) → wrong_from (owner_rule blocks boards) k before xs ≡ None → From blocks boards k xs
from blocks boards [] k before e =
    let same : k ≡ blocks = elim (cases_Bool (eqb k blocks)) [ inl t ↦ eqb-true k blocks t | inr f ↦ absurd (none-some k (sym (rw f at e))) ] in
    record { long = omega arith; below = λ b l. absurd (omega arith) }
from blocks boards (x ∷ xs) k before e =
    let s = stands (owner_rule blocks boards) k before x xs e in
    let p = and_parts (ltb k blocks) (ltb x boards) s.0 in
    let r = from blocks boards xs (k + 1) (Some x) s.1 in
    record {
      long = omega (arith, r.long);
      below = λ b. elim b as (λ b. b < suc (length xs) → get_or (x ∷ xs) b 0 < boards) [ zero ↦ (λ _. ltb-true x boards p.1) | suc i ↦ (λ l. r.below i (omega arith)) ];
    }

pub legal_owned : (blocks boards : ℕ) (xs : List ℕ) → Legal (owner_rule blocks boards) xs → Owned blocks boards xs
legal_owned blocks boards xs e =
    let r = from blocks boards xs 0 None e in
    record { long = omega (arith, r.long); below = λ b l. r.below b (omega (arith, r.long)) }
