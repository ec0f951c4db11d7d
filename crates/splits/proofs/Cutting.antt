-- What the rule of splits comes to: a legal list cuts its side.
use Rattle.std.proofs.Common.{◌≡◌, ℕ, zero, suc, ◌+◌, ◌-◌, ◌<◌, ◌≤◌, true, eqb, List, [], ◌∷◌, length, get_or, Some, None, Option, refl, subst, inl, inr, add-one, arith, sym}
use Rattle.std.proofs.lemmas.Bool.{cases_Bool, and_parts, eqb-true}
use Rattle.std.proofs.lemmas.Bool.Decides.{nat_tests}
use Rattle.wrong_lists.specs.Lists.{wrong_from, Legal}
use Rattle.splits.specs.Splits.{split_rule, Cuts}
use Rattle.std.proofs.lemmas.Option.{none-some}
use Rattle.wrong_lists.proofs.Rules.{stands}

-- what a number that may stand says of itself and of its index
within_size : (size k : ℕ) (before : Option ℕ) (x : ℕ) → split_rule size k before (Some x) ≡ true → (x ≤ size) × (x < size → k < 32) × (k < 33)
within_size size k None x t =
    let p = and_parts (eqb k 0) (eqb x 0) t in
    let q = eqb-true k 0 p.0 in
    (omega (arith, eqb-true x 0 p.1), λ _. omega (arith, q), omega (arith, q))
within_size size k (Some b) x t = (grind (arith, nat_tests), λ l. grind (arith, nat_tests), grind (arith, nat_tests))

above : (size k b x : ℕ) → split_rule size k (Some b) (Some x) ≡ true → b < x
above size k b x t = grind (arith, nat_tests)

-- what a legal list is from its entry b on, k being the next index
record Tail (size k b : ℕ) (xs : List ℕ) : Type 0 where
  rises : (j : ℕ) → j < length xs → get_or (b ∷ xs) j 0 < get_or xs j 0
  last : get_or (b ∷ xs) (length xs) 0 ≡ size
  short : k ≤ 33 → k + length xs ≤ 33

tail : (size : ℕ) (xs : List ℕ) (k b : ℕ) → wrong_from (split_rule size) k (Some b) xs ≡ None → Tail size k b xs
tail size [] k b e =
    record {
      rises = λ j l. absurd (omega arith);
      last = elim (cases_Bool (eqb b size)) [ inl t ↦ eqb-true b size t | inr f ↦ absurd (none-some k (sym (rw f at e))) ];
      short = λ h. omega arith;
    }
tail size (x ∷ xs) k b e =
    let s = stands (split_rule size) k (Some b) x xs e in
    let w = within_size size k (Some b) x s.0 in
    let r = tail size xs (k + 1) x s.1 in
    let up : b < x = above size k b x s.0 in
    record {
      rises = λ j. elim j as (λ j. j < suc (length xs) → get_or (b ∷ x ∷ xs) j 0 < get_or (x ∷ xs) j 0) [ zero ↦ (λ _. up) | suc i ↦ (λ l. r.rises i (omega arith)) ];
      last = r.last;
      short = λ h. omega (arith, r.short (omega (arith, w.2)));
    }

-- a legal list of a side that is not empty cuts it
pub legal_cuts : (size : ℕ) (xs : List ℕ) → 0 < size → Legal (split_rule size) xs → Cuts size xs
legal_cuts size [] h e = absurd (none-some 0 (sym e))
legal_cuts size (x ∷ xs) h e =
    let s = stands (split_rule size) 0 None x xs e in
    let none : x ≡ 0 = eqb-true x 0 (and_parts (eqb 0 0) (eqb x 0) s.0).1 in
    let t = tail size xs 1 x s.1 in
    let l : (n : ℕ) → length xs ≡ n → 0 < n = λ n. elim n as (λ n. length xs ≡ n → 0 < n) [
      | zero ↦ (λ z. absurd (let q : get_or (x ∷ xs) 0 0 ≡ size = subst (λ m. get_or (x ∷ xs) m 0 ≡ size) z t.last in omega (arith, none, q, h)))
      | suc m ↦ (λ _. omega arith)
    ] in
    record {
      first = none;
      rises = λ k. rw (add-one k) (λ b. t.rises k (omega arith));
      last = (let same : length (x ∷ xs) - 1 ≡ length xs = omega arith in rw same t.last);
      long = omega (arith, l (length xs) refl);
      short = omega (arith, t.short (omega arith));
    }
