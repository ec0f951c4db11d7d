-- What the entries of a log take is what the boards' lists take.
use Rattle.std.proofs.Common.{◌≡◌, ℕ, zero, suc, ◌+◌, ◌<◌, ◌≤◌, true, cond, eqb, leb, List, [], ◌∷◌, length, refl, ◌∙◌, inl, inr, arith}
use Rattle.std.proofs.lemmas.List.{length-append}
use Rattle.std.proofs.lemmas.Bool.{cases_eq, eq-eqb, ne_eqb}
use Rattle.std.proofs.lemmas.Bool.Decides.{nat_tests}
use Rattle.buses.specs.Buses.{weight, taken}
use Rattle.buses.specs.Entries.{Entry, laid, addressed, lawful}
use Rattle.buses.specs.Laid.{entry_facts}

module _ (w : ℕ → List (List ℕ)) (r : ℕ) (f : List ℕ) where
  -- the lists with one more frame in front of board r's
  abbrev one_more : ℕ → List (List ℕ)
  one_more k = cond (eqb k r) (f ∷ w k) (w k)

  more_other : (k : ℕ) → (k ≡ r → ⊥) → weight (one_more k) ≡ weight (w k)
  more_other k d = rw (ne_eqb k r d) refl

  more_same : (k : ℕ) → k ≡ r → weight (one_more k) ≡ 2 + length f + weight (w k)
  more_same k e = rw (eq-eqb k r e) refl

  taken_below : (n : ℕ) → n ≤ r → taken n one_more ≡ taken n w
  taken_below zero l = refl
  taken_below (suc n) l = omega (arith, more_other n (λ e. omega arith), taken_below n (omega arith))

  taken_more : (n : ℕ) → r < n → taken n one_more ≡ 2 + length f + taken n w
  taken_more zero l = absurd (omega arith)
  taken_more (suc n) l =
      elim (cases_eq n r) [
        | inl e ↦ omega (arith, more_same n e, taken_below n (omega arith))
        | inr d ↦ omega (arith, more_other n d, taken_more n (omega arith))
      ]

taken_none : (n : ℕ) → taken n (λ k. []) ≡ 0
taken_none zero = refl
taken_none (suc n) = omega (arith, taken_none n)

pub taken_laid : (n : ℕ) (es : List Entry) → lawful n es ≡ true → taken n (λ k. addressed k es) ≡ length (laid es)
taken_laid n [] p = taken_none n
taken_laid n (e ∷ es) p =
    let h = entry_facts n e es p in
    taken_more (λ k. addressed k es) e.receiver e.frame n h.0
    ∙ omega (arith, taken_laid n es h.3, length-append e.frame (laid es))

pub room_left : (used free len : ℕ) → used + free ≡ len → leb (used + 66) len ≡ leb 66 free
room_left used free len e = grind (arith, nat_tests)
