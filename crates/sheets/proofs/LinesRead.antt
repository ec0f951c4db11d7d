-- The lines of a sheet, read one after the other.
use Rattle.std.proofs.Common.{◌≡◌, ℕ, suc, ◌+◌, ◌*◌, ◌<◌, ◌≤◌, List, [], ◌∷◌, ◌++◌, length, get_or, take, set, Some, None, sym, refl, ap, ◌∙◌, subst, inl, inr, append_assoc, arith, below_more}
use Rattle.std.proofs.lemmas.List.{append-nil, get_or-set_same, get_or-set_other, take_more_set, length-take-le}
use Rattle.std.proofs.lemmas.Bool.{cases_Bool}
use Rattle.std.proofs.lemmas.Option.{none-some}
use Rattle.faults.specs.declared.cause.Cause.{Cause}
use Rattle.faults.specs.declared.cause.Cause.TheVariants.{Field}
use Rattle.sheets.specs.Lines.{blank}
use Rattle.sheets.specs.Sheet.{first_illegal, line_fields, lines_fields, line_text, lines_text, LegalLine, part, sheet_length, FieldAt}
use Rattle.sheets.specs.declared.line.Line.{Line}
use Rattle.sheets.proofs.LineFields.{part_join}

-- fields after fields that stand
pub illegal_after : (bs : List ℕ) (fs gs : List FieldAt) → first_illegal bs fs ≡ None → first_illegal bs (fs ++ gs) ≡ first_illegal bs gs
illegal_after bs [] gs e = refl
illegal_after bs (f ∷ fs) gs e =
    elim (cases_Bool (f.stands (part bs f.at f.width))) [
      | inl t ↦ (let r : first_illegal bs fs ≡ None = rw t at e in rw t (illegal_after bs fs gs r))
      | inr n ↦ absurd (none-some _ (sym (rw n at e)))
    ]

-- fields after one that does not stand
pub illegal_before : (bs : List ℕ) (fs gs : List FieldAt) (c : Cause) → first_illegal bs fs ≡ Some c → first_illegal bs (fs ++ gs) ≡ Some c
illegal_before bs [] gs c e = absurd (none-some c e)
illegal_before bs (f ∷ fs) gs c e =
    elim (cases_Bool (f.stands (part bs f.at f.width))) [
      | inl t ↦ (let r : first_illegal bs fs ≡ Some c = rw t at e in rw t (illegal_before bs fs gs c r))
      | inr n ↦ (let r : Some (Field f.line f.column) ≡ Some c = rw n at e in rw n r)
    ]

-- the lines from x on are line x and those after it
pub lines_next : (n x k j : ℕ) → k ≡ suc j → lines_fields n x k ≡ line_fields n x ++ lines_fields n (x + 1) j
lines_next n x k j e = ap (lines_fields n x) e

pub lines_push : (y : ℕ) (ls : List Line) (l : Line) (x : ℕ) → y + length ls ≡ x → lines_text y (ls ++ l ∷ []) ≡ lines_text y ls ++ line_text x l
lines_push y [] l x e = append-nil (line_text y l) ∙ ap (λ i. line_text i l) (let s : y ≡ x = omega arith in s)
lines_push y (m ∷ ls) l x e =
    ap (λ t. line_text y m ++ t) (lines_push (y + 1) ls l x (omega arith)) ∙ sym (append_assoc (line_text y m) (lines_text (y + 1) ls) (line_text x l))

-- one line more
module _ (bs : List ℕ) (n x : ℕ) (lines : List Line) (l : Line) (sized : length lines ≡ 16) (here : x < 16) where
  pub text_more : part bs 25 (49 * x) ≡ lines_text 0 (take x lines) → part bs (sheet_length x) 49 ≡ line_text x l
      → part bs 25 (49 * (x + 1)) ≡ lines_text 0 (take (x + 1) (set lines x l))
  text_more before line =
      let inside : x < length lines = omega arith in
      let long : 0 + length (take x lines) ≡ x = omega (arith, length-take-le x lines (omega arith)) in
      ap (part bs 25) (let s : 49 * (x + 1) ≡ 49 * x + 49 = omega arith in s)
      ∙ part_join bs 25 (49 * x) 49
      ∙ ap (λ t. t ++ part bs (25 + 49 * x) 49) before
      ∙ ap (λ t. lines_text 0 (take x lines) ++ t) line
      ∙ sym (lines_push 0 (take x lines) l x long)
      ∙ ap (lines_text 0) (sym (take_more_set lines x l inside))

  pub rest_more : ((k : ℕ) → x ≤ k → get_or lines k blank ≡ blank) → (k : ℕ) → x + 1 ≤ k → get_or (set lines x l) k blank ≡ blank
  rest_more rest k h = get_or-set_other lines x k l blank (omega arith) ∙ rest k (omega arith)

  pub legal_more : ((k : ℕ) → k < x → LegalLine n (get_or lines k blank)) → LegalLine n l → (k : ℕ) → k < x + 1 → LegalLine n (get_or (set lines x l) k blank)
  legal_more legal this =
      below_more (λ k. LegalLine n (get_or (set lines x l) k blank)) x
      (λ k h. subst (LegalLine n) (sym (get_or-set_other lines x k l blank (omega arith))) (legal k h))
      (subst (LegalLine n) (sym (get_or-set_same lines x l blank (omega arith))) this)
