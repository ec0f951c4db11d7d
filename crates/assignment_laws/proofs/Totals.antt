-- Totals, and that a permutation of the indices keeps one.
use Rattle.std.proofs.Common.{◌≡◌, ℕ, zero, suc, ◌+◌, ◌<◌, ◌≤◌, cond, eqb, sym, refl, ap, ◌∙◌, inl, inr, add-one, arith}
use Rattle.std.proofs.lemmas.Bool.{cases_eq, cases_lt, eq-eqb, ne_eqb, cond-true, cond-false}
use Rattle.assignment_laws.specs.Namings.{total, Permutation}

pub total_more : (f : ℕ → ℕ) (n : ℕ) → total f (n + 1) ≡ total f n + f n
total_more f n = rw add-one refl

-- totals of functions that agree below n
pub total_same : (f g : ℕ → ℕ) (n : ℕ) → ((x : ℕ) → x < n → f x ≡ g x) → total f n ≡ total g n
total_same f g zero h = refl
total_same f g (suc n) h = omega (arith, h n (omega arith), total_same f g n (λ x l. h x (omega arith)))

pub total_le : (f g : ℕ → ℕ) (n : ℕ) → ((x : ℕ) → x < n → f x ≤ g x) → total f n ≤ total g n
total_le f g zero h = omega arith
total_le f g (suc n) h = omega (arith, h n (omega arith), total_le f g n (λ x l. h x (omega arith)))

pub total_add : (f g : ℕ → ℕ) (n : ℕ) → total (λ x. f x + g x) n ≡ total f n + total g n
total_add f g zero = refl
total_add f g (suc n) = omega (arith, total_add f g n)

pub total_at : (f : ℕ → ℕ) (n k : ℕ) → k < n → f k ≤ total f n
total_at f zero k l = absurd (omega arith)
total_at f (suc n) k l =
    elim (cases_eq k n) [
      | inl e ↦ omega (arith, ap f e)
      | inr d ↦ omega (arith, total_at f n k (omega arith))
    ]

-- f with the value v at k
abbrev pub put : (ℕ → ℕ) → ℕ → ℕ → ℕ → ℕ
put f k v x = cond (eqb x k) v (f x)

pub put_same : (f : ℕ → ℕ) (k v x : ℕ) → x ≡ k → put f k v x ≡ v
put_same f k v x e = cond-true (eqb x k) v (f x) (eq-eqb x k e)

pub put_other : (f : ℕ → ℕ) (k v x : ℕ) → (x ≡ k → ⊥) → put f k v x ≡ f x
put_other f k v x d = cond-false (eqb x k) v (f x) (ne_eqb x k d)

pub total_put : (f : ℕ → ℕ) (k v n : ℕ) → k < n → total (put f k v) n + f k ≡ total f n + v
total_put f k v zero l = absurd (omega arith)
total_put f k v (suc n) l =
    elim (cases_eq n k) [
      | inl e ↦
          (let same : total (put f k v) n ≡ total f n = total_same (put f k v) f n (λ x h. put_other f k v x (λ q. omega arith)) in
          omega (arith, put_same f k v n e, ap f e, same))
      | inr d ↦ omega (arith, put_other f k v n d, total_put f k v n (omega arith))
    ]

-- the total of f over the values of a permutation is that over the indices
module _ (f : ℕ → ℕ) (n : ℕ) (τ : ℕ → ℕ) (p : Permutation (suc n) τ) where
  -- the role that has board n gets that of role n, so that the first n roles have the first n boards
  abbrev cut : ℕ → ℕ
  cut x = cond (eqb (τ x) n) (τ n) (τ x)

  cut_at : (x : ℕ) → τ x ≡ n → cut x ≡ τ n
  cut_at x e = cond-true (eqb (τ x) n) (τ n) (τ x) (eq-eqb (τ x) n e)

  cut_off : (x : ℕ) → (τ x ≡ n → ⊥) → cut x ≡ τ x
  cut_off x d = cond-false (eqb (τ x) n) (τ n) (τ x) (ne_eqb (τ x) n d)

  not_last : (x : ℕ) → x < n → τ x ≡ τ n → ⊥
  not_last x l e = omega (arith, p.apart x n (omega arith) (omega arith) e)

  cut_below : (x : ℕ) → x < n → cut x < n
  cut_below x l =
      elim (cases_eq (τ x) n) [
        | inl e ↦
            (let other : τ n ≡ n → ⊥ = λ q. not_last x l (e ∙ sym q) in
            elim (cases_eq (τ n) n) [ inl q ↦ absurd (other q) | inr d ↦ omega (arith, cut_at x e, p.below n (omega arith), d) ])
        | inr d ↦ omega (arith, cut_off x d, p.below x (omega arith), d)
      ]

  cut_apart : (x y : ℕ) → x < n → y < n → cut x ≡ cut y → x ≡ y
  cut_apart x y l m e =
      elim (cases_eq (τ x) n) [
        | inl a ↦
            elim (cases_eq (τ y) n) [
              | inl b ↦ p.apart x y (omega arith) (omega arith) (a ∙ sym b)
              | inr b ↦ absurd (not_last y m (sym (cut_off y b) ∙ sym e ∙ cut_at x a))
            ]
        | inr a ↦
            elim (cases_eq (τ y) n) [
              | inl b ↦ absurd (not_last x l (sym (cut_off x a) ∙ e ∙ cut_at y b))
              | inr b ↦ p.apart x y (omega arith) (omega arith) (sym (cut_off x a) ∙ e ∙ cut_off y b)
            ]
      ]

  cut_is : Permutation n cut
  cut_is = record { below = cut_below; apart = cut_apart }

  cut_value : (x : ℕ) → x < n → put f (τ n) (f n) (cut x) ≡ f (τ x)
  cut_value x l =
      elim (cases_eq (τ x) n) [
        | inl e ↦ put_same f (τ n) (f n) (cut x) (cut_at x e) ∙ ap f (sym e)
        | inr d ↦
            (let far : cut x ≡ τ n → ⊥ = λ q. not_last x l (sym (cut_off x d) ∙ q) in
            put_other f (τ n) (f n) (cut x) far ∙ ap f (cut_off x d))
      ]

  moved_back : total (put f (τ n) (f n)) n + f (τ n) ≡ total f n + f n
  moved_back =
      elim (cases_lt (τ n) n) [
        | inl l ↦ total_put f (τ n) (f n) n l
        | inr m ↦
            (let e : τ n ≡ n = omega (arith, p.below n (omega arith)) in
            let same : total (put f (τ n) (f n)) n ≡ total f n = total_same (put f (τ n) (f n)) f n (λ x h. put_other f (τ n) (f n) x (λ q. omega arith)) in
            omega (arith, same, ap f e))
      ]

pub total_permuted : (n : ℕ) (f τ : ℕ → ℕ) → Permutation n τ → total (λ x. f (τ x)) n ≡ total f n
total_permuted zero f τ p = refl
total_permuted (suc n) f τ p =
    let g : ℕ → ℕ = put f (τ n) (f n) in
    let first : total (λ x. g (cut f n τ p x)) n ≡ total g n = total_permuted n g (cut f n τ p) (cut_is f n τ p) in
    let same : total (λ x. g (cut f n τ p x)) n ≡ total (λ x. f (τ x)) n = total_same (λ x. g (cut f n τ p x)) (λ x. f (τ x)) n (cut_value f n τ p) in
    omega (arith, first, same, moved_back f n τ p)

-- a permutation below n takes each value below n
pub no_gap : (n k : ℕ) (τ : ℕ → ℕ) → Permutation n τ → k < n → ((x : ℕ) → x < n → τ x ≡ k → ⊥) → ⊥
no_gap n k τ p l h =
    let f : ℕ → ℕ = put (λ x. 0) k 1 in
    let none : total (λ x. f (τ x)) n ≤ total (λ x. 0) n = total_le (λ x. f (τ x)) (λ x. 0) n (λ x m. omega (arith, put_other (λ x. 0) k 1 (τ x) (h x m))) in
    omega (arith, none, total_zero n, total_permuted n f τ p, total_at f n k l, put_same (λ x. 0) k 1 k refl)
  where
    total_zero : (n : ℕ) → total (λ x. 0) n ≡ 0
    total_zero zero = refl
    total_zero (suc n) = omega (arith, total_zero n)
