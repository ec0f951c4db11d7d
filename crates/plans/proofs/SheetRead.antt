-- A whole sheet, read field by field.
use Rattle.std.proofs.Common.{◌≡◌, ℕ, ◌*◌, ◌≤◌, true, List, [], ◌∷◌, ◌++◌, length, take, ℤ, pos, sym, refl, ap, ◌∙◌}
use Rattle.std.proofs.lemmas.Slice.Eq.{bytes_eq-Decides}
use Rattle.std.proofs.lemmas.List.{take_all}
use Rattle.std.specs.Str.{bytes_eq}
use Rattle.sheets.specs.Sheet.{sheet_length, first_line, lines_text, part}
use Rattle.plans.specs.Sheet.{sheet, LinesRead}
use Rattle.sheets.specs.Text.{text}
use Rattle.plans.specs.declared.plan.Plan.{Plan}
use Rattle.sheets.proofs.LineFields.{part_join}

-- the bytes are the text of what was read
pub bytes_are : (bs : List ℕ) (n : ℕ) (z : ℤ) → true ≡ bytes_eq (10 ∷ []) (part bs 24 1) → (b : ℕ) (p : Plan) → z ≡ pos b → part bs 0 4 ≡ text 4 (pos n) → part bs 4 20 ≡ text 20 z → LinesRead bs n b p → length bs ≤ sheet_length n
    → bs ≡ sheet p
unfolding sheet
bytes_are bs n z ends b p same first second lines short =
    let end : part bs 24 1 ≡ 10 ∷ [] = sym ((bytes_eq-Decides (10 ∷ []) (part bs 24 1)).0 (sym ends)) in
    let bill_is : part bs 4 20 ≡ text 20 (pos p.bill) = second ∙ ap (text 20) (same ∙ ap pos (sym lines.bill)) in
    let count-is : part bs 0 4 ≡ text 4 (pos p.boards) = first ∙ ap (λ i. text 4 (pos i)) (sym lines.boards) in
    let body : part bs 25 (49 * n) ≡ lines_text 0 (take p.boards p.lines) = lines.is ∙ ap (λ i. lines_text 0 (take i p.lines)) (sym lines.boards) in
    let head : part bs 0 25 ≡ first_line p.boards p.bill =
    part_join bs 0 4 21 ∙ ap (λ t. part bs 0 4 ++ t) (part_join bs 4 20 1) ∙ rw (count-is, bill_is, end) refl in
    sym (take_all (sheet_length n) bs short) ∙ part_join bs 0 25 (49 * n) ∙ rw (head, body) refl
