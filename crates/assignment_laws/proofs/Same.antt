-- Costs and proposals that agree below n are judged alike.
use Rattle.std.proofs.Common.{◌≡◌, ℕ, zero, suc, ◌<◌, Bool, cond, ◌||◌, eqb, leb, pos, ◌+ℤ◌, Some, None, Option, sym, refl, ap, ◌∙◌, arith}
use lib.Signed.{lt_z}
use Rattle.assignment_laws.specs.Namings.{bill_of, Least}
use Rattle.assignment_laws.specs.Judging.{Proposal, Certified, first_of, first_below, any_below, misnamed, beyond, unpriced, unfit, unfair, wrong_bill, wrong_role}
use Rattle.assignment_laws.proofs.Certificates.{fit_permute}
use Rattle.assignment_laws.proofs.Totals.{total_same}

pub first_same : (t s : ℕ → Bool) (n : ℕ) → ((x : ℕ) → x < n → t x ≡ s x) → first_below t n ≡ first_below s n
first_same t s zero h = refl
first_same t s (suc n) h =
    ap (λ o. first_of o (cond (t n) (Some n) None)) (first_same t s n (λ x l. h x (omega arith)))
    ∙ ap (λ b. first_of (first_below s n) (cond b (Some n) None)) (h n (omega arith))

any_same : (t s : ℕ → Bool) (n : ℕ) → ((x : ℕ) → x < n → t x ≡ s x) → any_below t n ≡ any_below s n
any_same t s zero h = refl
any_same t s (suc n) h = ap (λ b. b || any_below t n) (h n (omega arith)) ∙ ap (λ b. s n || b) (any_same t s n (λ x l. h x (omega arith)))

-- the first finding decides, so that the second may be looked at where there is none
first_of_same : (o p q : Option ℕ) → (o ≡ None → p ≡ q) → first_of o p ≡ first_of o q
first_of_same None p q h = h refl
first_of_same (Some k) p q h = refl

module _
    (cost dost : ℕ → ℕ → ℕ) (n : ℕ) (p q : Proposal)
    (costs : (x y : ℕ) → x < n → y < n → cost x y ≡ dost x y)
    (names : (x : ℕ) → x < n → p.name x ≡ q.name x)
    (roles : (x : ℕ) → x < n → p.role_price x ≡ q.role_price x)
    (boards : (x : ℕ) → x < n → p.board_price x ≡ q.board_price x)
    (bill : p.bill ≡ q.bill) where
  misnamed_same : (x : ℕ) → x < n → misnamed n p.name x ≡ misnamed n q.name x
  misnamed_same x l =
      ap (λ y. leb n y || any_below (λ k. eqb (p.name k) y) x) (names x l)
      ∙ ap (λ b. leb n (q.name x) || b)
      (any_same (λ k. eqb (p.name k) (q.name x)) (λ k. eqb (q.name k) (q.name x)) x (λ k m. ap (λ z. eqb z (q.name x)) (names k (omega arith))))

  unfit_same : (x : ℕ) → x < n → unfit n p x ≡ unfit n q x
  unfit_same x l =
      ap (λ b. b || unpriced p x) (misnamed_same x l)
      ∙ ap (λ z. misnamed n q.name x || (beyond z || beyond (p.board_price x))) (roles x l)
      ∙ ap (λ z. misnamed n q.name x || (beyond (q.role_price x) || beyond z)) (boards x l)

  -- where each role has a board
  module _ (named : (x : ℕ) → x < n → p.name x < n) where
    cost_same : (x : ℕ) → x < n → cost x (p.name x) ≡ dost x (q.name x)
    cost_same x l = costs x (p.name x) l (named x l) ∙ ap (dost x) (names x l)

    price_same : (x : ℕ) → x < n → p.role_price x +ℤ p.board_price (p.name x) ≡ q.role_price x +ℤ q.board_price (q.name x)
    price_same x l =
        ap (λ z. z +ℤ p.board_price (p.name x)) (roles x l)
        ∙ ap (λ z. q.role_price x +ℤ z) (boards (p.name x) (named x l) ∙ ap q.board_price (names x l))

    above_same : (x y : ℕ) → x < n → y < n
        → lt_z (pos (cost x y)) (p.role_price x +ℤ p.board_price y) ≡ lt_z (pos (dost x y)) (q.role_price x +ℤ q.board_price y)
    above_same x y l m =
        ap (λ z. lt_z (pos z) (p.role_price x +ℤ p.board_price y)) (costs x y l m)
        ∙ ap (λ z. lt_z (pos (dost x y)) (z +ℤ p.board_price y)) (roles x l)
        ∙ ap (λ z. lt_z (pos (dost x y)) (q.role_price x +ℤ z)) (boards y m)

    unfair_same : (x : ℕ) → x < n → unfair cost n p x ≡ unfair dost n q x
    unfair_same x l =
        ap (λ b. b || lt_z (p.role_price x +ℤ p.board_price (p.name x)) (pos (cost x (p.name x))))
        (any_same (λ y. lt_z (pos (cost x y)) (p.role_price x +ℤ p.board_price y)) (λ y. lt_z (pos (dost x y)) (q.role_price x +ℤ q.board_price y)) n
        (λ y m. above_same x y l m))
        ∙ ap (λ z. any_below (λ y. lt_z (pos (dost x y)) (q.role_price x +ℤ q.board_price y)) n || lt_z z (pos (cost x (p.name x)))) (price_same x l)
        ∙ ap (λ z. any_below (λ y. lt_z (pos (dost x y)) (q.role_price x +ℤ q.board_price y)) n || lt_z (q.role_price x +ℤ q.board_price (q.name x)) (pos z))
        (cost_same x l)

    pub bill_same : bill_of cost n p.name ≡ bill_of dost n q.name
    bill_same = total_same (λ x. cost x (p.name x)) (λ x. dost x (q.name x)) n cost_same

    later_same : first_of (first_below (unfair cost n p) n) (wrong_bill cost n p) ≡ first_of (first_below (unfair dost n q) n) (wrong_bill dost n q)
    later_same =
        ap (λ o. first_of o (wrong_bill cost n p)) (first_same (unfair cost n p) (unfair dost n q) n unfair_same)
        ∙ ap (λ z. first_of (first_below (unfair dost n q) n) (cond (eqb z (bill_of cost n p.name)) None (Some n))) bill
        ∙ ap (λ z. first_of (first_below (unfair dost n q) n) (cond (eqb q.bill z) None (Some n))) bill_same

  pub wrong_same : wrong_role cost n p ≡ wrong_role dost n q
  wrong_same =
      first_of_same (first_below (unfit n p) n) _ _ (λ fit. later_same (fit_permute cost n p fit).below)
      ∙ ap (λ o. first_of o (first_of (first_below (unfair dost n q) n) (wrong_bill dost n q))) (first_same (unfit n p) (unfit n q) n unfit_same)

  pub certified_same : Certified cost n p → Certified dost n q
  certified_same k =
      record {
        permutation =
            record {
              below = λ x l. omega (arith, k.permutation.below x l, names x l);
              apart = λ x y l m e. k.permutation.apart x y l m (names x l ∙ e ∙ sym (names y m));
            };
        within = λ x l. rw (sym (roles x l), sym (boards x l)) (k.within x l);
        feasible = λ x y l m. rw (sym (roles x l), sym (boards y m), sym (costs x y l m)) (k.feasible x y l m);
        tight = λ x l. sym (price_same k.permutation.below x l) ∙ k.tight x l ∙ ap pos (cost_same k.permutation.below x l);
        bill = sym bill ∙ k.bill ∙ bill_same k.permutation.below;
      }

pub least_same : (cost dost : ℕ → ℕ → ℕ) (n b : ℕ) → ((x y : ℕ) → x < n → y < n → cost x y ≡ dost x y) → Least cost n b → Least dost n b
least_same cost dost n b same l τ p = omega (arith, l τ p, total_same (λ x. cost x (τ x)) (λ x. dost x (τ x)) n (λ x m. same x (τ x) m (p.below x m)))
