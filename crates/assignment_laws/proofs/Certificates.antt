-- What the tests of the judge tell of an assignment, and that a certified one is least.
use Rattle.std.proofs.Common.{◌≡◌, ℕ, ◌+◌, ◌^◌, ◌<◌, ◌≤◌, true, false, eqb, leb, ℤ, pos, negsuc, ◌+ℤ◌, ◌-ℤ◌, neg_ℤ, ◌≤ℤ◌, None, sym, refl, inl, inr, arith}
use lib.Signed.{lt_z}
use Rattle.std.proofs.lemmas.Int.{ints}
use Rattle.std.proofs.lemmas.Bool.{or_parts, leb-false, eqb-false, cases_order, eq-eqb, ne_eqb, lt-leb, or_from}
use Rattle.assignment_laws.specs.Namings.{Permutation, bill_of, Least, Feasible, Tight}
use Rattle.assignment_laws.specs.Judging.{Proposal, Within, Certified, first_below, any_below, misnamed, beyond, unpriced, unfit, unfair, wrong_role}
use Rattle.assignment_laws.proofs.LeastBills.{least_bills}
use Rattle.assignment_laws.proofs.Verdicts.{first_none, any_none, all_none, all_pass}

-- the natural number of an integer that is not negative
abbrev nat : ℤ → ℕ
nat (pos n) = n
nat (negsuc n) = 0

nat_is : (z : ℤ) → pos 0 ≤ℤ z → pos (nat z) ≡ z
nat_is (pos n) h = refl
nat_is (negsuc n) h = absurd (omega (arith, ints))

not_above : (a b : ℤ) → lt_z a b ≡ false → b ≤ℤ a
not_above a b e = grind (arith, ints)

meets : (a b : ℤ) → a ≤ℤ b → b ≤ℤ a → a ≡ b
meets a b l m = omega (arith, ints)

within_range : (z : ℤ) → beyond z ≡ false → Within z
within_range z e =
    let q = or_parts (lt_z z (neg_ℤ (pos (2 ^ 50)))) (lt_z (pos (2 ^ 50)) z) e in
    (not_above z (neg_ℤ (pos (2 ^ 50))) q.0, not_above (pos (2 ^ 50)) z q.1)

-- prices moved up by 2 ^ 50, and boards' prices turned into discounts, are natural numbers
moved : (u v : ℤ) (k : ℕ) → Within u → Within v → (u +ℤ v) ≤ℤ pos k → nat (u +ℤ pos (2 ^ 50)) ≤ k + nat (pos (2 ^ 50) -ℤ v)
moved u v k a b h =
    let up : pos (nat (u +ℤ pos (2 ^ 50))) ≡ u +ℤ pos (2 ^ 50) = nat_is (u +ℤ pos (2 ^ 50)) (omega (arith, ints, a.0)) in
    let down : pos (nat (pos (2 ^ 50) -ℤ v)) ≡ pos (2 ^ 50) -ℤ v = nat_is (pos (2 ^ 50) -ℤ v) (omega (arith, ints, b.1)) in
    omega (arith, ints, up, down, h)

moved_tight : (u v : ℤ) (k : ℕ) → Within u → Within v → u +ℤ v ≡ pos k → nat (u +ℤ pos (2 ^ 50)) ≡ k + nat (pos (2 ^ 50) -ℤ v)
moved_tight u v k a b h =
    let up : pos (nat (u +ℤ pos (2 ^ 50))) ≡ u +ℤ pos (2 ^ 50) = nat_is (u +ℤ pos (2 ^ 50)) (omega (arith, ints, a.0)) in
    let down : pos (nat (pos (2 ^ 50) -ℤ v)) ≡ pos (2 ^ 50) -ℤ v = nat_is (pos (2 ^ 50) -ℤ v) (omega (arith, ints, b.1)) in
    omega (arith, ints, up, down, h)

module _ (cost : ℕ → ℕ → ℕ) (n : ℕ) (p : Proposal) where
  pub certified_least : Certified cost n p → Least cost n p.bill
  certified_least k τ q =
      let u : ℕ → ℕ = λ x. nat (p.role_price x +ℤ pos (2 ^ 50)) in
      let w : ℕ → ℕ = λ y. nat (pos (2 ^ 50) -ℤ p.board_price y) in
      let feasible : Feasible cost n u w =
      λ x y l m. moved (p.role_price x) (p.board_price y) (cost x y) (k.within x l).0 (k.within y m).1 (k.feasible x y l m) in
      let tight : Tight cost n u w p.name =
      λ x l.
      moved_tight (p.role_price x) (p.board_price (p.name x)) (cost x (p.name x)) (k.within x l).0
      (k.within (p.name x) (k.permutation.below x l)).1
      (k.tight x l) in
      omega (arith, k.bill, least_bills cost n u w p.name feasible k.permutation tight τ q)

  abbrev Fit : Type 0
  Fit = first_below (unfit n p) n ≡ None

  fit_names : Fit → (x : ℕ) → x < n → misnamed n p.name x ≡ false
  fit_names e x l =
      (or_parts (misnamed n p.name x) (unpriced p x)
      (first_none (unfit n p) n e x l)
      ).0

  pub fit_within : Fit → (x : ℕ) → x < n → Within (p.role_price x) × Within (p.board_price x)
  fit_within e x l =
      let q =
      (or_parts (misnamed n p.name x) (unpriced p x)
      (first_none (unfit n p) n e x l)
      ).1 in
      let r = or_parts (beyond (p.role_price x)) (beyond (p.board_price x)) q in
      (within_range (p.role_price x) r.0, within_range (p.board_price x) r.1)

-- names that pass the test are a permutation
module _ (n : ℕ) (σ : ℕ → ℕ) (e : (x : ℕ) → x < n → misnamed n σ x ≡ false) where
  pub names_below : (x : ℕ) → x < n → σ x < n
  names_below x l = leb-false n (σ x) (or_parts (leb n (σ x)) (any_below (λ k. eqb (σ k) (σ x)) x) (e x l)).0

  names_differ : (x y : ℕ) → x < y → y < n → σ x ≡ σ y → ⊥
  names_differ x y l m =
      eqb-false (σ x) (σ y)
      (any_none (λ k. eqb (σ k) (σ y)) y (or_parts (leb n (σ y)) (any_below (λ k. eqb (σ k) (σ y)) y) (e y m)).1 x l)

  pub names_permute : Permutation n σ
  names_permute =
      record {
        below = names_below;
        apart = λ x y l m q.
            elim (cases_order x y) [
              | inl s ↦ s
              | inr d ↦ elim d [ inl b ↦ absurd (names_differ x y b m q) | inr b ↦ absurd (names_differ y x b l (sym q)) ]
            ];
      }

module _ (cost : ℕ → ℕ → ℕ) (n : ℕ) (p : Proposal) (fit : Fit cost n p) where
  pub fit_permute : Permutation n p.name
  fit_permute = names_permute n p.name (fit_names cost n p fit)

  module _ (fair : first_below (unfair cost n p) n ≡ None) (bill : p.bill ≡ bill_of cost n p.name) where
    fair_parts : (x : ℕ) → x < n
        → (any_below (λ y. lt_z (pos (cost x y)) (p.role_price x +ℤ p.board_price y)) n ≡ false)
        × (lt_z (p.role_price x +ℤ p.board_price (p.name x)) (pos (cost x (p.name x))) ≡ false)
    fair_parts x l =
        or_parts (any_below (λ y. lt_z (pos (cost x y)) (p.role_price x +ℤ p.board_price y)) n)
        (lt_z (p.role_price x +ℤ p.board_price (p.name x)) (pos (cost x (p.name x))))
        (first_none (unfair cost n p) n fair x l)

    fair_feasible : (x y : ℕ) → x < n → y < n → (p.role_price x +ℤ p.board_price y) ≤ℤ pos (cost x y)
    fair_feasible x y l m =
        not_above (pos (cost x y)) (p.role_price x +ℤ p.board_price y)
        (any_none (λ z. lt_z (pos (cost x z)) (p.role_price x +ℤ p.board_price z)) n (fair_parts x l).0 y m)

    pub accepted_certified : Certified cost n p
    accepted_certified =
        record {
          permutation = fit_permute;
          within = fit_within cost n p fit;
          feasible = fair_feasible;
          tight = λ x l.
              meets (p.role_price x +ℤ p.board_price (p.name x)) (pos (cost x (p.name x)))
              (fair_feasible x (p.name x) l (fit_permute.below x l))
              (not_above (p.role_price x +ℤ p.board_price (p.name x)) (pos (cost x (p.name x))) (fair_parts x l).1);
          bill = bill;
        }

    pub accepted : wrong_role cost n p ≡ None
    accepted =
        let even : eqb p.bill (bill_of cost n p.name) ≡ true = eq-eqb p.bill (bill_of cost n p.name) bill in
        rw (fit, fair, even) refl

-- a certified assignment passes every test
not_below : (a b : ℤ) → b ≤ℤ a → lt_z a b ≡ false
not_below a b l = grind (arith, ints)

in_range : (z : ℤ) → Within z → beyond z ≡ false
in_range z w =
    or_from (lt_z z (neg_ℤ (pos (2 ^ 50)))) (lt_z (pos (2 ^ 50)) z) (not_below z (neg_ℤ (pos (2 ^ 50))) w.0) (not_below (pos (2 ^ 50)) z w.1)

same_le : (a b : ℤ) → a ≡ b → b ≤ℤ a
same_le a b e = omega (arith, ints)

well_named : (n : ℕ) (σ : ℕ → ℕ) → Permutation n σ → (x : ℕ) → x < n → misnamed n σ x ≡ false
well_named n σ p x l =
    or_from (leb n (σ x)) (any_below (λ k. eqb (σ k) (σ x)) x) (lt-leb n (σ x) (p.below x l))
    (all_pass (λ k. eqb (σ k) (σ x)) x (λ k m. ne_eqb (σ k) (σ x) (λ e. omega (arith, p.apart k x (omega arith) l e))))

module _ (cost : ℕ → ℕ → ℕ) (n : ℕ) (p : Proposal) (k : Certified cost n p) where
  certified_fit : Fit cost n p
  certified_fit =
      all_none (unfit n p) n
      (λ x l.
      or_from (misnamed n p.name x) (unpriced p x) (well_named n p.name k.permutation x l)
      (or_from (beyond (p.role_price x)) (beyond (p.board_price x)) (in_range (p.role_price x) (k.within x l).0) (in_range (p.board_price x) (k.within x l).1)))

  certified_fair : first_below (unfair cost n p) n ≡ None
  certified_fair =
      all_none (unfair cost n p) n
      (λ x l.
      or_from (any_below (λ y. lt_z (pos (cost x y)) (p.role_price x +ℤ p.board_price y)) n)
      (lt_z (p.role_price x +ℤ p.board_price (p.name x)) (pos (cost x (p.name x))))
      (all_pass (λ y. lt_z (pos (cost x y)) (p.role_price x +ℤ p.board_price y)) n
      (λ y m. not_below (pos (cost x y)) (p.role_price x +ℤ p.board_price y) (k.feasible x y l m)))
      (not_below (p.role_price x +ℤ p.board_price (p.name x)) (pos (cost x (p.name x))) (same_le (p.role_price x +ℤ p.board_price (p.name x)) (pos (cost x (p.name x))) (k.tight x l))))

  pub certified_accepted : wrong_role cost n p ≡ None
  certified_accepted = accepted cost n p certified_fit certified_fair k.bill
