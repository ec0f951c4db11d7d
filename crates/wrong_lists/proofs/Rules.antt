-- What a legal list says of its first entry and of the rest.
use Rattle.std.proofs.Common.{◌≡◌, ℕ, ◌+◌, true, List, ◌∷◌, Some, None, Option, inl, inr, sym}
use Rattle.std.proofs.lemmas.Bool.{cases_Bool}
use Rattle.std.proofs.lemmas.Option.{none-some}
use Rattle.wrong_lists.specs.Lists.{RuleOf, wrong_from}

-- an entry of a legal list may stand, and the rest is legal
pub stands : {A : Type 0} (may : RuleOf A) (k : ℕ) (before : Option A) (x : A) (xs : List A) → wrong_from may k before (x ∷ xs) ≡ None
    → (may k before (Some x) ≡ true) × (wrong_from may (k + 1) (Some x) xs ≡ None)
stands may k before x xs e =
    elim (cases_Bool (may k before (Some x))) [
      | inl t ↦ (t, rw t at e)
      | inr f ↦ absurd (none-some k (sym (rw f at e)))
    ]
