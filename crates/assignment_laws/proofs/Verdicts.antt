-- First and any number below a limit, as loops find them.
use Rattle.std.proofs.Common.{◌≡◌, ℕ, zero, suc, ◌+◌, ◌<◌, ◌≤◌, Bool, true, false, Some, None, Option, sym, refl, ap, ◌∙◌, inl, inr, add-one, arith}
use Rattle.std.proofs.lemmas.Bool.{cases_Bool, cases_eq, or_from, or_left, or_right, both_ways}
use Rattle.assignment_laws.specs.Judging.{first_of, first_below, any_below}

module _ (t : ℕ → Bool) where
  -- a loop finds none up to k, and then none up to k + 1
  pub first_more : (k : ℕ) → first_below t k ≡ None → t k ≡ false → first_below t (k + 1) ≡ None
  first_more k e f = rw (add-one, e, f) refl

  first_here : (k : ℕ) → first_below t k ≡ None → t k ≡ true → first_below t (suc k) ≡ Some k
  first_here k e f = rw (e, f) refl

  first_later : (k i : ℕ) (n : ℕ) → first_below t k ≡ Some i → k ≤ n → first_below t n ≡ Some i
  first_later k i zero e l = let z : k ≡ 0 = omega arith in rw z at e
  first_later k i (suc n) e l =
      elim (cases_eq k (suc n)) [
        | inl q ↦ rw q at e
        | inr d ↦ (let earlier : first_below t n ≡ Some i = first_later k i n e (omega arith) in rw earlier refl)
      ]

  -- the loop's answer where it stops
  pub first_found : (k n : ℕ) → first_below t k ≡ None → t k ≡ true → k < n → first_below t n ≡ Some k
  first_found k n e f l = first_later (suc k) k n (first_here k e f) (omega arith)

  -- what the answer that there is none says
  pub first_none : (n : ℕ) → first_below t n ≡ None → (k : ℕ) → k < n → t k ≡ false
  first_none zero e k l = absurd (omega arith)
  first_none (suc n) e k l =
      elim (cases_Bool (t n)) [
        | inl yes' ↦ absurd (none_some (first_below t n) n (rw yes' at e))
        | inr f ↦
            (let e' : first_below t n ≡ None = left_none (first_below t n) (rw f at e) in
            elim (cases_eq k n) [ inl q ↦ ap t q ∙ f | inr d ↦ first_none n e' k (omega arith) ])
      ]
    where
      none_some : (o : Option ℕ) (i : ℕ) → first_of o (Some i) ≡ None → ⊥
      none_some None i e = let z : ◌≡◌ {A = ℕ} 0 1 = cc in omega arith
      none_some (Some j) i e = let z : ◌≡◌ {A = ℕ} 0 1 = cc in omega arith

      left_none : (o : Option ℕ) → first_of o None ≡ None → o ≡ None
      left_none None e = refl
      left_none (Some j) e = e

  pub any_more : (k : ℕ) → any_below t k ≡ false → t k ≡ false → any_below t (k + 1) ≡ false
  any_more k e f = rw add-one (or_from (t k) (any_below t k) f e)

  pub any_found : (k n : ℕ) → t k ≡ true → k < n → any_below t n ≡ true
  any_found k zero e l = absurd (omega arith)
  any_found k (suc n) e l =
      elim (cases_eq k n) [
        | inl q ↦ or_left (t n) (any_below t n) (ap t (sym q) ∙ e)
        | inr d ↦ or_right (t n) (any_below t n) (any_found k n e (omega arith))
      ]

  pub any_none : (n : ℕ) → any_below t n ≡ false → (k : ℕ) → k < n → t k ≡ false
  any_none n e k l =
      elim (cases_Bool (t k)) [
        | inl yes' ↦ absurd (both_ways (any_below t n) e (any_found k n yes' l))
        | inr f ↦ f
      ]

  -- and back
  pub all_none : (n : ℕ) → ((k : ℕ) → k < n → t k ≡ false) → first_below t n ≡ None
  all_none zero h = refl
  all_none (suc n) h =
      let before : first_below t n ≡ None = all_none n (λ k l. h k (omega arith)) in
      let here : t n ≡ false = h n (omega arith) in
      rw (before, here) refl

  pub all_pass : (n : ℕ) → ((k : ℕ) → k < n → t k ≡ false) → any_below t n ≡ false
  all_pass zero h = refl
  all_pass (suc n) h = or_from (t n) (any_below t n) (h n (omega arith)) (all_pass n (λ k l. h k (omega arith)))
