-- The law of wrong lists, by induction on the list, for any index and entry before it.
use Rattle.std.proofs.Common.{◌≡◌, ℕ, zero, suc, ◌+◌, ◌<◌, ◌≤◌, true, false, cond, List, [], ◌∷◌, Some, None, Option, length, get_or, drop, sym, refl, ap, ◌∙◌, subst, inl, inr, arith}
use Rattle.std.proofs.lemmas.Bool.{cases_Bool}
use Rattle.std.proofs.lemmas.List.{at_drop_more, at_drop_all}
use Rattle.std.specs.List.{slice_get}
use Rattle.std.proofs.lemmas.Option.{none-some, same_Some}
use Rattle.wrong_lists.specs.Lists.{RuleOf, wrong_from, first_wrong, Agree, WrongAt, Completes, WrongListsOf}

-- what the law says of a list from index k on, its wrong index being k + d
record Wrong {A : Type 0} (may : RuleOf A) (k : ℕ) (before : Option A) (xs : List A) (d : ℕ) : Type 0 where
  none : (ys : List A) → wrong_from may k before ys ≡ None → Agree xs ys d → ⊥
  earlier : (j : ℕ) → j < d → (ys : List A) × (wrong_from may k before ys ≡ None) × Agree xs ys j

-- no list begins with an entry that the rule forbids there
barred : {A : Type 0} (may : RuleOf A) (k : ℕ) (before : Option A) (ys : List A) → may k before (slice_get ys 0) ≡ false → wrong_from may k before ys ≡ None → ⊥
barred may k before [] f e = none-some k (sym (rw f at e))
barred may k before (y ∷ ys) f e = none-some k (sym (rw f at e))

wrong_here : {A : Type 0} (may : RuleOf A) (k : ℕ) (before : Option A) (xs : List A) → may k before (slice_get xs 0) ≡ false → Wrong may k before xs 0
wrong_here may k before xs f =
    record {
      none = λ ys l a. barred may k before ys (ap (may k before) (sym (a 0 (omega arith))) ∙ f) l;
      earlier = λ j l. absurd (omega arith);
    }

shifted : {A : Type 0} (x : A) (xs ys : List A) (j : ℕ) → Agree xs ys j → Agree (x ∷ xs) (x ∷ ys) (suc j)
shifted x xs ys j a zero l = refl
shifted x xs ys j a (suc k) l = a k (omega arith)

only_first : {A : Type 0} (x : A) (xs ys : List A) → Agree (x ∷ xs) (x ∷ ys) 0
only_first x xs ys zero l = refl
only_first x xs ys (suc k) l = absurd (omega arith)

-- the rest of a list after an entry that may stand
legal_rest : {A : Type 0} (may : RuleOf A) (k : ℕ) (before : Option A) (x : A) (ys : List A) → may k before (Some x) ≡ true
    → wrong_from may k before (x ∷ ys) ≡ wrong_from may (k + 1) (Some x) ys
legal_rest may k before x ys t = rw t refl

module _ {A : Type 0} (may : RuleOf A) (c : Completes may) (k : ℕ) (before : Option A) (x : A) (xs : List A) (t : may k before (Some x) ≡ true) (d : ℕ) (w : Wrong may (k + 1) (Some x) xs d) where
  none_later : (ys : List A) → wrong_from may k before ys ≡ None → Agree (x ∷ xs) ys (suc d) → ⊥
  none_later [] l a = none-some x (sym (a 0 (omega arith)))
  none_later (y ∷ ys) l a =
      let same : x ≡ y = same_Some x y (a 0 (omega arith)) in
      let l' : wrong_from may k before (x ∷ ys) ≡ None = subst (λ z. wrong_from may k before (z ∷ ys) ≡ None) (sym same) l in
      w.none ys (sym (legal_rest may k before x ys t) ∙ l') (λ j h. a (suc j) (omega arith))

  earlier_later : (j : ℕ) → j < suc d → (ys : List A) × (wrong_from may k before ys ≡ None) × Agree (x ∷ xs) ys j
  earlier_later zero h = let f = c k before x t in (x ∷ f.0, legal_rest may k before x f.0 t ∙ f.1, only_first x xs f.0)
  earlier_later (suc j) h =
      let f = w.earlier j (omega arith) in
      (x ∷ f.0, legal_rest may k before x f.0 t ∙ f.1, shifted x xs f.0 j f.2)

  wrong_later : Wrong may k before (x ∷ xs) (suc d)
  wrong_later = record { none = none_later; earlier = earlier_later }

found : {A : Type 0} (may : RuleOf A) → Completes may → (xs : List A) (k : ℕ) (before : Option A) (i : ℕ) → wrong_from may k before xs ≡ Some i
    → (d : ℕ) × (i ≡ k + d) × Wrong may k before xs d
found may c [] k before i e =
    elim (cases_Bool (may k before None)) [
      | inl t ↦ absurd (none-some i (rw t at e))
      | inr f ↦ (0, omega (arith, same_Some k i (rw f at e)), wrong_here may k before [] f)
    ]
found may c (x ∷ xs) k before i e =
    elim (cases_Bool (may k before (Some x))) [
      | inl t ↦
          (let r = found may c xs (k + 1) (Some x) i (sym (legal_rest may k before x xs t) ∙ e) in
          (suc r.0, omega (arith, r.1), wrong_later may c k before x xs t r.0 r.2))
      | inr f ↦ (0, omega (arith, same_Some k i (rw f at e)), wrong_here may k before (x ∷ xs) f)
    ]

pub wrong_lists : {A : Type 0} → WrongListsOf A
wrong_lists may c xs i e =
    let r = found may c xs 0 None i e in
    let same : r.0 ≡ i = omega (arith, r.1) in
    let w : Wrong may 0 None xs i = subst (Wrong may 0 None xs) same r.2 in
    record { none = w.none; earlier = w.earlier }

-- a search that has come to index i without a wrong entry finds the list wrong there, at an entry or at its end
module _ {A : Type 0} (may : RuleOf A) (c : Completes may) (xs : List A) (i : ℕ) (before : Option A) (so_far : wrong_from may i before (drop i xs) ≡ first_wrong may xs) where
  pub wrong_at_entry : (x : A) → i < length xs → x ≡ get_or xs i x → false ≡ may i before (Some x) → WrongAt may xs i
  wrong_at_entry x h r f =
      wrong_lists may c xs i (sym so_far
      ∙ at_drop_more (wrong_from may i before) xs i x h
      ∙ ap (λ b. cond b (wrong_from may (i + 1) (Some (get_or xs i x)) (drop (i + 1) xs)) (Some i)) (ap (λ y. may i before (Some y)) (sym r) ∙ sym f))

  pub wrong_at_end : length xs ≤ i → i ≤ length xs → false ≡ may (length xs) before None → WrongAt may xs (length xs)
  wrong_at_end h l f =
      let e : i ≡ length xs = omega arith in
      wrong_lists may c xs (length xs) (sym so_far
      ∙ at_drop_all (wrong_from may i before) xs i h
      ∙ ap (λ k. cond (may k before None) None (Some k)) e
      ∙ ap (λ z. cond z None (Some (length xs))) (sym f))
