-- The sheet of a legal plan is read.
use Rattle.std.proofs.Common.{◌≡◌, ℕ, suc, ◌+◌, ◌-◌, ◌*◌, ◌<◌, ◌≤◌, List, [], ◌∷◌, ◌++◌, length, get_or, take, drop, pos, None, sym, refl, ap, ◌∙◌, append_assoc, arith, length-append}
use Rattle.std.proofs.lemmas.Slice.Eq.{bytes_eq-Decides}
use Rattle.std.proofs.lemmas.List.{take_at, drop_at}
use Rattle.std.proofs.lemmas.Int.{ints}
use Rattle.sheets.specs.Lines.{blank}
use Rattle.sheets.specs.Sheet.{LegalLine, first_illegal, last_board, line_fields, line_text, lines_fields, lines_text, part, price_high, price_low, sheet_length}
use Rattle.sheets.specs.Text.{reads, text}
use Rattle.sheets.specs.declared.line.Line.{Line}
use Rattle.sheets.proofs.Fields.{price_small, within_from}
use Rattle.sheets.proofs.LineFields.{line_stands}
use Rattle.sheets.proofs.LinesRead.{illegal_after}
use Rattle.sheets.proofs.Meant.{reads_back}
use Rattle.sheets.proofs.Pasting.{long_line, long_small, long_wide}

-- t stands in bs after pre, and rest after t
pub record Stands (bs pre t rest : List ℕ) (at w : ℕ) : Type 0 where
  pub here : part bs at w ≡ t
  pub next : bs ≡ (pre ++ t) ++ rest
  pub long : length (pre ++ t) ≡ at + w

pub stands : (bs pre t rest : List ℕ) (at w : ℕ) → bs ≡ pre ++ (t ++ rest) → length pre ≡ at → w ≡ length t → Stands bs pre t rest at w
stands bs pre t rest at w e l m =
    record {
      here = ap (λ x. take w (drop at x)) e ∙ ap (take w) (drop_at pre (t ++ rest) at l) ∙ take_at t rest w (sym m);
      next = e ∙ sym (append_assoc pre t rest);
      long = omega (arith, length-append pre t);
    }

module _ (n x : ℕ) (l : Line) (x_few : x ≤ 999) (n_some : 1 ≤ n) (n_few : n ≤ 16) (legal : LegalLine n l) where
  b_few : l.board ≤ 999
  b_few = omega (arith, legal.0)

  line_stands_back : (bs pre post : List ℕ) → bs ≡ pre ++ (line_text x l ++ post) → length pre ≡ sheet_length x → first_illegal bs (line_fields n x) ≡ None
  line_stands_back bs pre post e long =
      let at = sheet_length x in
      let t₁ = text 4 (pos x) in
      let t₂ = text 4 (pos l.board) in
      let t₃ = text 20 l.u in
      let t₄ = text 20 l.v in
      let u = within_from price_low price_high l.u legal.1 in
      let v = within_from price_low price_high l.v legal.2 in
      let u_few = price_small l.u legal.1 in
      let v_few = price_small l.v legal.2 in
      let e₁ : bs ≡ pre ++ (t₁ ++ (t₂ ++ (t₃ ++ (t₄ ++ 10 ∷ post)))) = e ∙ ap (λ t. pre ++ t) (simp append_assoc) in
      let s₁ = stands bs pre t₁ (t₂ ++ (t₃ ++ (t₄ ++ 10 ∷ post))) at 4 e₁ long (long_small x x_few) in
      let s₂ = stands bs (pre ++ t₁) t₂ (t₃ ++ (t₄ ++ 10 ∷ post)) (at + 4) 4 s₁.next s₁.long (long_small l.board b_few) in
      let l₃ : length ((pre ++ t₁) ++ t₂) ≡ at + 8 = omega (arith, s₂.long) in
      let s₃ = stands bs ((pre ++ t₁) ++ t₂) t₃ (t₄ ++ 10 ∷ post) (at + 8) 20 s₂.next l₃ (long_wide l.u u_few) in
      let l₄ : length (((pre ++ t₁) ++ t₂) ++ t₃) ≡ at + 28 = omega (arith, s₃.long) in
      let s₄ = stands bs (((pre ++ t₁) ++ t₂) ++ t₃) t₄ (10 ∷ post) (at + 28) 20 s₃.next l₄ (long_wide l.v v_few) in
      let l₅ : length ((((pre ++ t₁) ++ t₂) ++ t₃) ++ t₄) ≡ at + 48 = omega (arith, s₄.long) in
      let s₅ = stands bs ((((pre ++ t₁) ++ t₂) ++ t₃) ++ t₄) (10 ∷ []) post (at + 48) 1 s₄.next l₅ refl in
      line_stands bs n x l x
      (sym (ap (reads 4 (pos x) (pos x)) s₁.here ∙ reads_back 4 (pos x) (pos x) (pos x) (omega arith) (omega (arith, ints)) (omega (arith, ints))))
      (sym (ap (reads 4 (pos 0) (last_board n)) s₂.here
      ∙ reads_back 4 (pos 0) (last_board n) (pos l.board) (omega (arith, b_few)) (omega (arith, ints)) (let h : l.board ≤ n - 1 = omega (arith, legal.0) in omega (arith, ints))))
      (sym (ap (reads 20 price_low price_high) s₃.here ∙ reads_back 20 price_low price_high l.u u_few u.0 u.1))
      (sym (ap (reads 20 price_low price_high) s₄.here ∙ reads_back 20 price_low price_high l.v v_few v.0 v.1))
      (sym ((bytes_eq-Decides (10 ∷ []) (part bs (at + 48) 1)).1 (sym s₅.here)))

  long_text : 49 ≡ length (line_text x l)
  long_text = long_line x l x_few b_few (price_small l.u legal.1) (price_small l.v legal.2)

-- every line of a list is legal
unfoldable pub LegalLines : ℕ → List Line → Type 0
LegalLines n ls = (k : ℕ) → k < length ls → LegalLine n (get_or ls k blank)

pub lines_stand_back : (ls : List Line) (bs pre post : List ℕ) (n x : ℕ) → 1 ≤ n → n ≤ 16 → x + length ls ≤ 16 → LegalLines n ls
    → bs ≡ pre ++ (lines_text x ls ++ post) → length pre ≡ sheet_length x → first_illegal bs (lines_fields n x (length ls)) ≡ None
unfolding LegalLines
lines_stand_back [] bs pre post n x some few inside legal e long = refl
lines_stand_back (l ∷ ls) bs pre post n x some few inside legal e long =
    let first = legal 0 (omega arith) in
    let e₁ : bs ≡ pre ++ (line_text x l ++ (lines_text (x + 1) ls ++ post)) = e ∙ ap (λ t. pre ++ t) (append_assoc (line_text x l) (lines_text (x + 1) ls) post) in
    let this = line_stands_back n x l (omega arith) some few first bs pre (lines_text (x + 1) ls ++ post) e₁ long in
    let longer : length (pre ++ line_text x l) ≡ sheet_length (x + 1) = omega (arith, length-append pre (line_text x l), long_text n x l (omega arith) some few first) in
    illegal_after bs (line_fields n x) (lines_fields n (x + 1) (length ls)) this
    ∙ lines_stand_back ls bs (pre ++ line_text x l) post n (x + 1) some few (omega arith) (λ k h. legal (suc k) (omega arith)) (e₁ ∙ sym (append_assoc pre (line_text x l) _)) longer

pub long_lines : (ls : List Line) (n x : ℕ) → 1 ≤ n → n ≤ 16 → x + length ls ≤ 16 → LegalLines n ls → 49 * length ls ≡ length (lines_text x ls)
unfolding LegalLines
long_lines [] n x some few inside legal = refl
long_lines (l ∷ ls) n x some few inside legal =
    let this = long_text n x l (omega arith) some few (legal 0 (omega arith)) in
    let rest = long_lines ls n (x + 1) some few (omega arith) (λ k h. legal (suc k) (omega arith)) in
    let both = length-append (line_text x l) (lines_text (x + 1) ls) in
    omega arith
