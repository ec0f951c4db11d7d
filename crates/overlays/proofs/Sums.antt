-- Sums of a function's values.
use Rattle.std.proofs.Common.{◌≡◌, ℕ, zero, suc, ◌+◌, ◌-◌, ◌*◌, ◌<◌, ◌≤◌, cond, eqb, List, length, get_or, sym, refl, ap, ◌∙◌, subst, inl, inr, add-zero, add-suc, suc-mul, mul-zero, mul-add, add-one, arith}
use Rattle.std.proofs.lemmas.Bool.{cases_eq, cond-true, cond-false, eq-eqb, ne_eqb}
use Rattle.splits.specs.Splits.{Within}
use Rattle.overlays.specs.Lines.{Lines}
use Rattle.overlays.specs.Packages.{sum_below}

pub sum_same : (n : ℕ) (f g : ℕ → ℕ) → ((i : ℕ) → i < n → f i ≡ g i) → sum_below n f ≡ sum_below n g
sum_same zero f g e = refl
sum_same (suc n) f g e = omega (arith, sum_same n f g (λ i h. e i (omega arith)), e n (omega arith))

pub sum_constant : (n : ℕ) (f : ℕ → ℕ) (v : ℕ) → ((i : ℕ) → i < n → f i ≡ v) → sum_below n f ≡ n * v
sum_constant zero f v e = omega arith
sum_constant (suc n) f v e = omega (arith, sum_constant n f v (λ i h. e i (omega arith)), e n (omega arith), suc-mul n v)

pub sum_none : (n : ℕ) (f : ℕ → ℕ) → ((i : ℕ) → i < n → f i ≡ 0) → sum_below n f ≡ 0
sum_none zero f e = refl
sum_none (suc n) f e = omega (arith, sum_none n f (λ i h. e i (omega arith)), e n (omega arith))

pub sum_plus : (n : ℕ) (f g : ℕ → ℕ) → sum_below n (λ i. f i + g i) ≡ sum_below n f + sum_below n g
sum_plus zero f g = refl
sum_plus (suc n) f g = omega (arith, sum_plus n f g)

pub sum_times : (n h : ℕ) (f : ℕ → ℕ) → h * sum_below n f ≡ sum_below n (λ i. h * f i)
sum_times zero h f = mul-zero h
sum_times (suc n) h f = omega (arith, mul-add h (sum_below n f) (f n), sum_times n h f)

pub sum_split : (f : ℕ → ℕ) (a d : ℕ) → sum_below (a + d) f ≡ sum_below a f + sum_below d (λ i. f (a + i))
sum_split f a zero = ap (λ x. sum_below x f) (add-zero a) ∙ (omega arith)
sum_split f a (suc d) = ap (λ x. sum_below x f) (add-suc a d) ∙ (omega (arith, sum_split f a d))

pub sum_rises : (f : ℕ → ℕ) (a b : ℕ) → a ≤ b → sum_below a f ≤ sum_below b f
sum_rises f a b h =
    let e : a + (b - a) ≡ b = omega arith in
    subst (λ x. sum_below a f ≤ sum_below x f) e (omega (arith, sum_split f a (b - a)))

pub sum_below_sum : (n : ℕ) (f g : ℕ → ℕ) → ((i : ℕ) → i < n → f i ≤ g i) → sum_below n f ≤ sum_below n g
sum_below_sum zero f g e = omega arith
sum_below_sum (suc n) f g e = omega (arith, sum_below_sum n f g (λ i h. e i (omega arith)), e n (omega arith))

pub sum_swap : (m n : ℕ) (f : ℕ → ℕ → ℕ) → sum_below m (λ i. sum_below n (λ j. f i j)) ≡ sum_below n (λ j. sum_below m (λ i. f i j))
sum_swap zero n f = sym (sum_none n (λ j. 0) (λ j h. refl))
sum_swap (suc m) n f =
    ap (λ x. x + sum_below n (λ j. f m j)) (sum_swap m n f) ∙ sym (sum_plus n (λ j. sum_below m (λ i. f i j)) (λ j. f m j))

-- a sum over a table, row by row
pub sum_rows : (m n : ℕ) (f : ℕ → ℕ) → sum_below (m * n) f ≡ sum_below m (λ a. sum_below n (λ b. f (a * n + b)))
sum_rows zero n f = let e : 0 * n ≡ 0 = omega arith in ap (λ x. sum_below x f) e
sum_rows (suc m) n f =
    ap (λ x. sum_below x f) (suc-mul m n) ∙ (sum_split f (m * n) n ∙ ap (λ x. x + sum_below n (λ b. f (m * n + b))) (sum_rows m n f))

-- of the numbers below n one is x
pub sum_point : (n x v : ℕ) → x < n → sum_below n (λ i. cond (eqb x i) v 0) ≡ v
sum_point zero x v h = absurd (omega arith)
sum_point (suc n) x v h =
    elim (cases_eq x n) [
      | inl e ↦
          (let t : cond (eqb x n) v 0 ≡ v = cond-true (eqb x n) v 0 (eq-eqb x n e) in
          let s : sum_below n (λ i. cond (eqb x i) v 0) ≡ 0 = sum_none n (λ i. cond (eqb x i) v 0) (λ i l. cond-false (eqb x i) v 0 (ne_eqb x i (λ q. omega (arith, q, e, l)))) in
          omega (arith, t, s))
      | inr d ↦
          (let t : cond (eqb x n) v 0 ≡ 0 = cond-false (eqb x n) v 0 (ne_eqb x n d) in
          omega (arith, t, sum_point n x v (omega (arith, d, h))))
    ]

-- a function that does not change within a span of the lines is summed span by span
module _ (size : ℕ) (zs : List ℕ) (l : Lines size zs) (f : ℕ → ℕ) (same : (a r : ℕ) → Within zs a r → f r ≡ f (get_or zs a 0)) where
  to_line : (m : ℕ) → m < length zs → sum_below (get_or zs m 0) f ≡ sum_below m (λ a. (get_or zs (a + 1) 0 - get_or zs a 0) * f (get_or zs a 0))
  to_line zero h = ap (λ x. sum_below x f) l.first
  to_line (suc m) h =
      let z = get_or zs m 0 in
      let d = get_or zs (m + 1) 0 - get_or zs m 0 in
      let up : z < get_or zs (m + 1) 0 = l.rises m (omega arith) in
      let e : get_or zs (suc m) 0 ≡ z + d = ap (λ x. get_or zs x 0) (sym (add-one m)) ∙ (omega (arith, up)) in
      let t : sum_below d (λ i. f (z + i)) ≡ d * f z = sum_constant d (λ i. f (z + i)) (f z) (λ i k. same m (z + i) (record { one = omega arith; from = omega arith; to = omega (arith, up, k) })) in
      ap (λ x. sum_below x f) e ∙ (sum_split f z d ∙ (omega (arith, t, to_line m (omega arith))))

  pub sum_spans : sum_below size f ≡ sum_below (length zs - 1) (λ a. (get_or zs (a + 1) 0 - get_or zs a 0) * f (get_or zs a 0))
  sum_spans = ap (λ x. sum_below x f) (sym l.last) ∙ to_line (length zs - 1) (omega (arith, l.long))
