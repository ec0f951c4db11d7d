-- The two small tables, by their two namings.
use Rattle.std.proofs.Common.{◌≡◌, ℕ, ◌+◌, ◌≤◌, sym, refl, ap, ◌∙◌, inl, inr, arith}
use Rattle.std.proofs.lemmas.Bool.{cases_eq}
use Rattle.assignment_laws.specs.Namings.{Permutation, bill_of}
use Rattle.assignment_laws.specs.Small.{two, own, exchanged, CheapestFirst, Exchange}

module _ (a b c d : ℕ) (σ : ℕ → ℕ) (p : Permutation 2 σ) where
  by_names : (i j : ℕ) → σ 0 ≡ i → σ 1 ≡ j → bill_of (two a b c d) 2 σ ≡ two a b c d 0 i + two a b c d 1 j
  by_names i j e f = omega (arith, ap (two a b c d 0) e, ap (two a b c d 1) f)

  own_bill : σ 0 ≡ 0 → bill_of (two a b c d) 2 σ ≡ a + d
  own_bill e =
      let other : σ 1 ≡ 0 → ⊥ = λ z. omega (arith, p.apart 0 1 (omega arith) (omega arith) (e ∙ sym z)) in
      let last : σ 1 ≡ 1 = omega (arith, p.below 1 (omega arith), other) in
      by_names 0 1 e last

  other_bill : (σ 0 ≡ 0 → ⊥) → bill_of (two a b c d) 2 σ ≡ b + c
  other_bill n =
      let first : σ 0 ≡ 1 = omega (arith, p.below 0 (omega arith), n) in
      let other : σ 1 ≡ 1 → ⊥ = λ z. omega (arith, p.apart 0 1 (omega arith) (omega arith) (first ∙ sym z)) in
      let last : σ 1 ≡ 0 = omega (arith, p.below 1 (omega arith), other) in
      by_names 1 0 first last

  no_less : (m : ℕ) → m ≤ a + d → m ≤ b + c → m ≤ bill_of (two a b c d) 2 σ
  no_less m l k = elim (cases_eq (σ 0) 0) [ inl e ↦ omega (arith, own_bill e) | inr n ↦ omega (arith, other_bill n) ]

own_permutes : Permutation 2 own
own_permutes = record { below = λ x l. l; apart = λ x y l m e. e }

exchanged_permutes : Permutation 2 exchanged
exchanged_permutes = record { below = λ x l. omega arith; apart = λ x y l m e. omega arith }

pub cheapest_first : CheapestFirst
cheapest_first =
    record {
      cheapest = λ x y l m. omega arith;
      taken = λ σ p e. own_bill 0 1 1 10 σ p e;
      other = (exchanged_permutes, refl);
      least = λ τ q. no_less 0 1 1 10 τ q 2 (omega arith) (omega arith);
    }

pub exchange : Exchange
exchange =
    record {
      own_names = (own_permutes, refl);
      other = (exchanged_permutes, refl);
      least = λ τ q. no_less 4 12 8 24 τ q 20 (omega arith) (omega arith);
    }
