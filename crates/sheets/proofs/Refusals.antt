-- When a plan is written, and when it is not.
use Rattle.std.proofs.Common.{◌≡◌, ℕ, zero, suc, ◌+◌, ◌<◌, Bool, true, false, cond, ltb, List, [], ◌∷◌, length, get_or, Some, None, Option, refl, ap, ◌∙◌, inl, inr, arith, sym}
use Rattle.std.proofs.lemmas.Bool.{cases_Bool, ltb-true, lt-ltb}
use Rattle.std.proofs.lemmas.Option.{none-some}
use Rattle.faults.specs.declared.cause.Cause.{Cause}
use Rattle.faults.specs.declared.cause.Cause.TheVariants.{Field}
use Rattle.sheets.specs.Lines.{blank}
use Rattle.sheets.specs.Sheet.{LegalLine, price_low, price_high, wrong_column, wrong_or, wrong_line}
use Rattle.sheets.specs.Text.{within}
use Rattle.sheets.specs.declared.line.Line.{Line}

no_column : (c : ℕ) → ◌≡◌ {A = Option ℕ} (Some c) None → ⊥
no_column c e = let z : ◌≡◌ {A = ℕ} 0 1 = cc in omega arith

-- a choice that came out as None took its first way
pub first_way : (b : Bool) (o : Option Cause) (c : Cause) → cond b o (Some c) ≡ None → (b ≡ true) × (o ≡ None)
first_way true o c e = (refl, e)
first_way false o c e = absurd (none-some c (sym e))

column_none : (n : ℕ) (l : Line) → wrong_column n l ≡ None → LegalLine n l
column_none n l e =
    elim (cases_Bool (ltb l.board n)) [
      | inl b ↦
          elim (cases_Bool (within price_low price_high l.u)) [
            | inl u ↦
                elim (cases_Bool (within price_low price_high l.v)) [
                  | inl v ↦ (ltb-true l.board n b, u, v)
                  | inr v ↦ absurd (no_column 29 (rw (b, u, v) at e))
                ]
            | inr u ↦ absurd (no_column 9 (rw (b, u) at e))
          ]
      | inr b ↦ absurd (no_column 5 (rw b at e))
    ]

or_none : (x : ℕ) (o : Option ℕ) (later : Option Cause) → wrong_or x o later ≡ None → (o ≡ None) × (later ≡ None)
or_none x None later e = (refl, e)
or_none x (Some c) later e = absurd (none-some (Field (x + 2) c) (sym e))

pub lines_none : (n x : ℕ) (ls : List Line) → wrong_line n x ls ≡ None → (k : ℕ) → k < length ls → LegalLine n (get_or ls k blank)
lines_none n x [] e k h = absurd (omega arith)
lines_none n x (l ∷ ls) e zero h = column_none n l (or_none x (wrong_column n l) _ e).0
lines_none n x (l ∷ ls) e (suc k) h = lines_none n (x + 1) ls (or_none x (wrong_column n l) _ e).1 k (omega arith)

legal_column : (n : ℕ) (l : Line) → LegalLine n l → wrong_column n l ≡ None
legal_column n l legal = rw (lt-ltb l.board n legal.0, legal.1, legal.2) refl

pub legal_lines_none : (n x : ℕ) (ls : List Line) → ((k : ℕ) → k < length ls → LegalLine n (get_or ls k blank)) → wrong_line n x ls ≡ None
legal_lines_none n x [] legal = refl
legal_lines_none n x (l ∷ ls) legal =
    ap (λ o. wrong_or x o (wrong_line n (x + 1) ls)) (legal_column n l (legal 0 (omega arith)))
    ∙ legal_lines_none n (x + 1) ls (λ k h. legal (suc k) (omega arith))
