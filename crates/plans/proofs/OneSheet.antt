-- A text is the sheet of one content at most.
use base.Stored.{Coded-set}
use mathlib.Core.HLevel.{is_prop→PathP, Π_prop, →_prop}
use Rattle.std.proofs.Common.{◌≡◌, ℕ, ◌+◌, ◌^◌, ◌<◌, ◌≤◌, List, [], ◌∷◌, ◌++◌, length, get_or, take, pos, sym, refl, ap, ◌∙◌, subst, inl, inr, arith}
use native.Mathlib.Nat.{ℕ_set}
use Rattle.std.proofs.lemmas.List.{ext_get_or, get_or-take}
use Rattle.std.proofs.lemmas.Bool.{cases_lt}
use Rattle.sheets.specs.Lines.{blank}
use Rattle.sheets.specs.Sheet.{first_line, lines_text}
use Rattle.plans.specs.Sheet.{Legal, SheetOf, sheet}
use Rattle.sheets.specs.Text.{text}
use Rattle.sheets.specs.contracts.line.Line.{the_row}
use Rattle.sheets.specs.declared.line.Line.{Line}
use Rattle.plans.specs.declared.plan.Plan.{Plan}
use Rattle.sheets.proofs.Meant.{same_number}
use Rattle.sheets.proofs.Pasting.{long_next, long_small, long_wide}
use Rattle.sheets.proofs.ReadBack.{LegalLines}
use Rattle.plans.proofs.ReadBack.{own_legal, own_lines, own_long}
use Rattle.sheets.proofs.OneSheet.{same_fronts, same_lines, same_pos}

line_set : (l m : Line) (e f : l ≡ m) → e ≡ f
line_set = Coded-set the_row.coded

pub same_content : (p q : Plan) → p.boards ≡ q.boards → p.bill ≡ q.bill → p.lines ≡ q.lines → p ≡ q
same_content p q b c l =
    λ i. record {
      boards = b i;
      bill = c i;
      lines = l i;
      sized = is_prop→PathP (λ j. length (l j) ≡ 16) (λ j. ℕ_set _ _) p.sized q.sized i;
      rest = is_prop→PathP (λ j. (x : ℕ) → b j ≤ x → get_or (l j) x blank ≡ blank) (λ j. Π_prop (λ x. →_prop (line_set _ _))) p.rest q.rest i;
    }

module _ (p q : Plan) (legal_p : Legal p) (legal_q : Legal q) (e : sheet p ≡ sheet q) where
  long_first : (r : Plan) → Legal r → 25 ≡ length (first_line r.boards r.bill)
  long_first r legal =
      long_next 4 21 _ _ (long_small r.boards (omega (arith, legal.few))) (long_next 20 1 _ _ (long_wide (pos r.bill) (omega (arith, legal.bill))) refl)

  parts : (first_line p.boards p.bill ≡ first_line q.boards q.bill) × (lines_text 0 (take p.boards p.lines) ≡ lines_text 0 (take q.boards q.lines))
  unfolding sheet
  parts = same_fronts (first_line p.boards p.bill) (first_line q.boards q.bill) _ _ 25 (long_first p legal_p) (long_first q legal_q) e

  firsts : (text 4 (pos p.boards) ≡ text 4 (pos q.boards)) × (text 20 (pos p.bill) ++ 10 ∷ [] ≡ text 20 (pos q.bill) ++ 10 ∷ [])
  firsts = same_fronts _ _ _ _ 4 (long_small p.boards (omega (arith, legal_p.few))) (long_small q.boards (omega (arith, legal_q.few))) parts.0

  same_boards : p.boards ≡ q.boards
  same_boards = same_pos p.boards q.boards (same_number 4 (pos p.boards) (pos q.boards) (omega (arith, legal_p.few)) (omega (arith, legal_q.few)) firsts.0)

  same_bill : p.bill ≡ q.bill
  same_bill =
      let small_p : p.bill ≤ 2 ^ 62 = omega (arith, legal_p.bill) in
      let small_q : q.bill ≤ 2 ^ 62 = omega (arith, legal_q.bill) in
      let text_is = same_fronts (text 20 (pos p.bill)) (text 20 (pos q.bill)) (10 ∷ []) (10 ∷ []) 20 (long_wide (pos p.bill) small_p) (long_wide (pos q.bill) small_q) firsts.1 in
      same_pos p.bill q.bill (same_number 20 (pos p.bill) (pos q.bill) small_p small_q text_is.0)

  own_same : take p.boards p.lines ≡ take q.boards q.lines
  unfolding own_lines
  own_same =
      let inside : 0 + length (take p.boards p.lines) ≤ 16 = omega (arith, own_long p legal_p, legal_p.few) in
      let legal_own : LegalLines p.boards (take q.boards q.lines) = subst (λ n. LegalLines n (take q.boards q.lines)) (sym same_boards) (own_legal q legal_q) in
      same_lines (take p.boards p.lines) (take q.boards q.lines) 0 p.boards legal_p.few inside (own_long p legal_p ∙ same_boards ∙ sym (own_long q legal_q))
      (own_legal p legal_p) legal_own parts.1

  line_same : (k : ℕ) → k < 16 → get_or p.lines k blank ≡ get_or q.lines k blank
  line_same k h =
      elim (cases_lt k p.boards) [
        | inl l ↦
            sym (get_or-take p.boards p.lines k blank l) ∙ ap (λ t. get_or t k blank) own_same ∙ get_or-take q.boards q.lines k blank (subst (λ n. k < n) same_boards l)
        | inr l ↦ p.rest k l ∙ sym (q.rest k (subst (λ n. n ≤ k) same_boards l))
      ]

  same_sheet : p ≡ q
  same_sheet =
      same_content p q same_boards same_bill
      (ext_get_or blank p.lines q.lines (p.sized ∙ sym q.sized) (λ k h. line_same k (omega (arith, h, p.sized))))

pub sheets_are_one : (p q : Plan) (bs : List ℕ) → SheetOf p bs → SheetOf q bs → p ≡ q
sheets_are_one p q bs sp sq = same_sheet p q sp.legal sq.legal (sym sp.is ∙ sq.is)
