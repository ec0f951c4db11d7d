-- The sheet of a legal plan is read.
use Rattle.std.proofs.Common.{◌≡◌, ◌+◌, ◌^◌, ◌<◌, ◌≤◌, List, [], ◌∷◌, ◌++◌, length, take, pos, nat_abs, None, sym, refl, ap, ◌∙◌, subst, append_assoc, arith, length-append}
use Rattle.std.proofs.lemmas.Slice.Eq.{bytes_eq-Decides}
use Rattle.std.proofs.lemmas.List.{append-nil, get_or-take, length-take-le}
use Rattle.std.proofs.lemmas.Int.{ints}
use Rattle.sheets.specs.Lines.{blank}
use Rattle.sheets.specs.Sheet.{LegalLine, bill_high, first_illegal, first_line, lines_fields, lines_text, part, read_refusal, sheet_length}
use Rattle.plans.specs.Sheet.{Legal, sheet}
use Rattle.sheets.specs.Text.{reads, text}
use Rattle.sheets.specs.declared.line.Line.{Line}
use Rattle.plans.specs.declared.plan.Plan.{Plan}
use Rattle.sheets.proofs.Meant.{reads_back}
use Rattle.sheets.proofs.Pasting.{long_next, long_small, long_wide}
use Rattle.sheets.proofs.SheetRead.{all_stand}
use Rattle.sheets.proofs.ReadBack.{LegalLines, lines_stand_back, long_lines, stands}

module _ (p : Plan) (legal : Legal p) where
  unfoldable pub own_lines : List Line
  own_lines = take p.boards p.lines

  pub own_long : length own_lines ≡ p.boards
  unfolding own_lines
  own_long = length-take-le p.boards p.lines (omega (arith, legal.few, p.sized))

  pub own_legal : LegalLines p.boards own_lines
  unfolding own_lines LegalLines
  own_legal k h =
      let l : k < p.boards = omega (arith, own_long) in
      subst (LegalLine p.boards) (sym (get_or-take p.boards p.lines k blank l)) (legal.lines k l)

  pub sheet_read_back : read_refusal (sheet p) ≡ None
  unfolding sheet own_lines
  sheet_read_back =
      let n = p.boards in
      let bs = sheet p in
      let t₁ = text 4 (pos p.boards) in
      let t₂ = text 20 (pos p.bill) in
      let lines = lines_text 0 (take p.boards p.lines) in
      let n_few : p.boards ≤ 999 = omega (arith, legal.few) in
      let b_small : nat_abs (pos p.bill) ≤ 2 ^ 62 = omega (arith, legal.bill) in
      let inside : 0 + length (take p.boards p.lines) ≤ 16 = omega (arith, own_long, legal.few) in
      let e₁ : sheet p ≡ [] ++ (t₁ ++ (t₂ ++ (10 ∷ (lines ++ [])))) = simp (append_assoc, append-nil) in
      let s₁ = stands (sheet p) [] t₁ (t₂ ++ (10 ∷ (lines ++ []))) 0 4 e₁ refl (long_small n n_few) in
      let s₂ = stands (sheet p) ([] ++ t₁) t₂ (10 ∷ (lines ++ [])) 4 20 s₁.next s₁.long (long_wide (pos p.bill) b_small) in
      let s₃ = stands (sheet p) (([] ++ t₁) ++ t₂) (10 ∷ []) (lines ++ []) 24 1 s₂.next s₂.long refl in
      let count = ap (reads 4 (pos 1) (pos 16)) s₁.here ∙ reads_back 4 (pos 1) (pos 16) (pos n) (omega (arith, legal.few)) (omega (arith, ints, legal.some)) (omega (arith, ints, legal.few)) in
      let bill = ap (reads 20 (pos 0) bill_high) s₂.here ∙ reads_back 20 (pos 0) bill_high (pos p.bill) b_small (omega (arith, ints)) (omega (arith, ints, legal.bill)) in
      let ends = (bytes_eq-Decides (10 ∷ []) (part (sheet p) 24 1)).1 (sym s₃.here) in
      let body = lines_stand_back (take p.boards p.lines) (sheet p) ((([] ++ t₁) ++ t₂) ++ (10 ∷ [])) [] n 0 legal.some legal.few inside own_legal s₃.next s₃.long in
      let body_n : first_illegal (sheet p) (lines_fields n 0 n) ≡ None = ap (λ k. first_illegal (sheet p) (lines_fields n 0 k)) (sym own_long) ∙ body in
      let size : length (sheet p) ≤ sheet_length n =
      omega (
        arith,
        ap length s₃.next,
        length-append ((([] ++ t₁) ++ t₂) ++ (10 ∷ [])) (lines ++ []),
        ap length (append-nil lines),
        s₃.long,
        long_lines (take p.boards p.lines) n 0 legal.some legal.few inside own_legal,
        own_long,
      ) in
      all_stand (sheet p) n (sym count) (pos p.bill) (sym bill) (sym ends) body_n size

pub sheet_long : (p : Plan) → Legal p → length (sheet p) ≡ sheet_length p.boards
unfolding sheet own_lines
sheet_long p legal =
    let inside : 0 + length (take p.boards p.lines) ≤ 16 = omega (arith, own_long p legal, legal.few) in
    let first : 25 ≡ length (first_line p.boards p.bill) =
    long_next 4 21 _ _ (long_small p.boards (omega (arith, legal.few))) (long_next 20 1 _ _ (long_wide (pos p.bill) (omega (arith, legal.bill))) refl) in
    omega (
      arith,
      length-append (first_line p.boards p.bill) (lines_text 0 (take p.boards p.lines)),
      first,
      long_lines (take p.boards p.lines) p.boards 0 legal.some legal.few inside (own_legal p legal),
      own_long p legal,
    )
