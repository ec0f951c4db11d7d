-- What a search below a number finds, and what is merged of a source that fits.
use Rattle.std.proofs.Common.{◌≡◌, ℕ, zero, suc, ◌+◌, ◌<◌, ◌≤◌, Bool, true, false, cond, List, get_or, Some, None, Option, Bor, sym, refl, ap, ◌∙◌, subst, inl, inr, arith}
use Rattle.std.proofs.lemmas.Bool.{cases_eq, cond-true, and_from, le-leb, ltb-false}
use Rattle.std.proofs.lemmas.Option.{none-some}
use Rattle.std.specs.Option.{option_map}
use Rattle.std.specs.Prelude.{MatchOption}
use Rattle.drawing_parts.specs.Refusals.{or_here, first_below, exceeds, share_cause}
use Rattle.drawing_parts.specs.Parts.{Fits, source_rows, source_columns}
use Rattle.faults.specs.declared.cause.Bank.{Bank}
use Rattle.faults.specs.declared.cause.Cause.TheVariants.{Share}
use Rattle.layouts.specs.declared.layout.Layout.{Layout}
use Rattle.layouts.specs.Layouts.{row_cuts, column_cuts, total_of}
use Rattle.layouts.proofs.Layouts.{sound}
use Rattle.overlays.specs.declared.operation.Operation.{Operation}
use Rattle.overlays.specs.declared.operation.Operation.TheVariants.{Identity, Transpose, ConjugateTranspose}
use Rattle.overlays.specs.Turns.{turned}
use Rattle.overlays.proofs.Cells.{turned_cuts}
use Rattle.overlays.proofs.Merging.{Side}
use Rattle.splits.specs.Splits.{Cuts}

-- the lowest number that passes
pub found : (n m : ℕ) (p : ℕ → Bool) → m < n → first_below m p ≡ None → p m ≡ true → first_below n p ≡ Some m
found zero m p h e t = absurd (omega arith)
found (suc n) m p h e t =
    elim (cases_eq m n) [
      | inl q ↦
          (let e' : first_below n p ≡ None = subst (λ x. first_below x p ≡ None) q e in
          let t' : p n ≡ true = subst (λ x. p x ≡ true) q t in
          ap (λ x. or_here x (p n) n) e' ∙ (ap (λ x. cond x (Some n) None) t' ∙ ap (λ x. Some x) (sym q)))
      | inr q ↦ ap (λ x. or_here x (p n) n) (found n m p (omega (arith, h, q)) e t)
    ]

-- no number passes
none_from : (n : ℕ) (p : ℕ → Bool) → ((k : ℕ) → k < n → p k ≡ false) → first_below n p ≡ None
none_from zero p h = refl
none_from (suc n) p h =
    ap (λ x. or_here x (p n) n) (none_from n p (λ k l. h k (omega (arith, l)))) ∙ ap (λ x. cond x (Some n) None) (h n (omega arith))

pub first_is : (n : ℕ) (p : ℕ → Bool) (o : Option ℕ)
    → MatchOption o ((k : ℕ) → 0 ≤ k → k < n → k < n → p k ≡ false) (λ i. (0 ≤ i) × (i < n) × (p i ≡ true) × ((k : ℕ) → 0 ≤ k → k < i → k < n → p k ≡ false))
    → o ≡ first_below n p
first_is n p None h = sym (none_from n p (λ k l. h k (omega arith) l l))
first_is n p (Some i) h = sym (found n i p h.1 (none_from i p (λ k l. h.3 k (omega arith) l (omega (arith, l, h.1)))) h.2)

or_none : (o : Option ℕ) (here : Bool) (n : ℕ) → or_here o here n ≡ None → (o ≡ None) × (here ≡ false)
or_none (Some i) here n e = absurd (none-some i (sym e))
or_none None true n e = absurd (none-some n (sym e))
or_none None false n e = (refl, refl)

none_below : (n : ℕ) (p : ℕ → Bool) → first_below n p ≡ None → (m : ℕ) → m < n → p m ≡ false
none_below zero p e m h = absurd (omega arith)
none_below (suc n) p e m h =
    let q = or_none (first_below n p) (p n) n e in
    elim (cases_eq m n) [
      | inl s ↦ subst (λ x. p x ≡ false) (sym s) q.1
      | inr s ↦ none_below n p q.0 m (omega (arith, h, s))
    ]

pub none_over : (l : Layout) (share : ℕ) → first_below l.boards (exceeds l share) ≡ None → (p : ℕ) → p < l.boards → total_of l p ≤ share
none_over l share e p h = ltb-false share (total_of l p) (none_below l.boards (exceeds l share) e p h)

pub share_fine : (bank : Bank) (l : Layout) (share : ℕ) → 1 ≤ share → share ≤ 1048576 → first_below l.boards (exceeds l share) ≡ None → share_cause bank l share ≡ None
share_fine bank l share g h e = cond-true _ _ _ (and_from _ _ (le-leb 1 share g) (le-leb share 1048576 h)) ∙ ap (option_map (λ p. Share bank p)) e

-- the source's splits along the target's sides cut these sides
pub rows_cut : (op : Operation) (a b : Layout) → Fits op a b → Cuts a.rows (source_rows op b)
rows_cut op a b f =
    turned_cuts op a.rows a.columns (row_cuts b) (column_cuts b) (subst (λ n. Cuts n (row_cuts b)) f.0 (sound b).row_side) (subst (λ n. Cuts n (column_cuts b)) f.1 (sound b).column_side)

pub columns_cut : (op : Operation) (a b : Layout) → Fits op a b → Cuts a.columns (source_columns op b)
columns_cut op a b f =
    turned_cuts op a.columns a.rows (column_cuts b) (row_cuts b) (subst (λ n. Cuts n (column_cuts b)) f.1 (sound b).column_side) (subst (λ n. Cuts n (row_cuts b)) f.0 (sound b).row_side)

pub cuts_as : (m n : ℕ) (xs ys : List ℕ) → m ≡ n → xs ≡ ys → Cuts n ys → Cuts m xs
cuts_as m n xs ys e f c = subst (λ k. Cuts k xs) (sym e) (subst (λ zs. Cuts n zs) (sym f) c)

-- what a turned reference points to
pub turned_now : (op : Operation) (x y r : Bor (List ℕ)) (xs ys : List ℕ) → r ≡ turned op x y → x.now ≡ xs → y.now ≡ ys → r.now ≡ turned op xs ys
turned_now Identity x y r xs ys e f g = ap (λ v. v.now) e ∙ f
turned_now Transpose x y r xs ys e f g = ap (λ v. v.now) e ∙ g
turned_now ConjugateTranspose x y r xs ys e f g = ap (λ v. v.now) e ∙ g

pub cond_more : (b : Bool) (n : ℕ) → cond b (n + 1) n + 1 ≡ cond b (n + 1 + 1) (n + 1)
cond_more true n = refl
cond_more false n = refl

-- lines in tables that are alike
pub side_as : (xs : List ℕ) (i n v : ℕ) (zs zs' ss ss' : List ℕ) → zs' ≡ zs → ss' ≡ ss → Side xs i n v (λ k. get_or zs k 0) (λ k. get_or ss k 0) → Side xs i n v (λ k. get_or zs' k 0) (λ k. get_or ss' k 0)
side_as xs i n v zs zs' ss ss' e f s =
    subst (λ us. Side xs i n v (λ k. get_or us k 0) (λ k. get_or ss' k 0)) (sym e) (subst (λ us. Side xs i n v (λ k. get_or zs k 0) (λ k. get_or us k 0)) (sym f) s)
