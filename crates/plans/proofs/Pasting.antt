-- Texts that are put side by side.
use Rattle.std.proofs.Common.{◌≡◌, ℕ, ◌*◌, List, ◌++◌, length, take, drop, pos, refl, ap, ◌∙◌, zero-add, arith}
use lib.Seq.{paste}
use Rattle.std.proofs.lemmas.List.Edits.{paste_all}
use Rattle.sheets.specs.Sheet.{first_line, lines_text, sheet_length}
use Rattle.plans.specs.Sheet.{Legal, sheet}
use Rattle.plans.specs.declared.plan.Plan.{Plan}
use Rattle.sheets.proofs.Pasting.{long_next, long_small, long_wide, put_next}

pub sheet_put : (d b c : List ℕ) (p : Plan) → Legal p → b ≡ paste d 0 (first_line p.boards p.bill) 25
    → c ≡ paste b 25 (lines_text 0 (take p.boards p.lines)) (49 * p.boards)
    → 49 * p.boards ≡ length (lines_text 0 (take p.boards p.lines))
    → c ≡ sheet p ++ drop (sheet_length p.boards) d
unfolding sheet
sheet_put d b c p legal p₁ p₂ long =
    let first = first_line p.boards p.bill in
    let lines = lines_text 0 (take p.boards p.lines) in
    let l₁ : 25 ≡ length first = long_next 4 21 _ _ (long_small p.boards (omega (arith, legal.few)))
    (long_next 20 1 _ _ (long_wide (pos p.bill) (omega (arith, legal.bill))) refl) in
    let whole : sheet_length p.boards ≡ length (first ++ lines) = long_next 25 (49 * p.boards) first lines l₁ long in
    put_next d b c 0 25 25 (49 * p.boards) first lines p₁ p₂ l₁ long refl (omega arith)
    ∙ paste_all d 0 (first ++ lines) (sheet_length p.boards) whole
    ∙ ap (λ i. (first ++ lines) ++ drop i d) (zero-add (sheet_length p.boards))
