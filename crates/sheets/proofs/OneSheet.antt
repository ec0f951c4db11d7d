-- A text is the sheet of one content at most.
use Rattle.std.proofs.Common.{◌≡◌, ℕ, suc, ◌+◌, ◌≤◌, List, [], ◌∷◌, ◌++◌, length, take, drop, pos, sym, refl, ap, ◌∙◌, arith}
use Rattle.std.proofs.lemmas.List.{take_at, drop_at}
use Rattle.sheets.specs.Sheet.{LegalLine, line_text, lines_text}
use Rattle.sheets.specs.Text.{text}
use Rattle.sheets.specs.declared.line.Line.{Line}
use Rattle.sheets.proofs.Fields.{price_small}
use Rattle.sheets.proofs.Meant.{same_number}
use Rattle.sheets.proofs.Pasting.{long_line, long_small, long_wide}
use Rattle.sheets.proofs.ReadBack.{LegalLines}

pub same_fronts : (s s' t t' : List ℕ) (n : ℕ) → n ≡ length s → n ≡ length s' → s ++ t ≡ s' ++ t' → (s ≡ s') × (t ≡ t')
same_fronts s s' t t' n l l' e =
    (sym (take_at s t n (sym l)) ∙ ap (take n) e ∙ take_at s' t' n (sym l'), sym (drop_at s t n (sym l)) ∙ ap (drop n) e ∙ drop_at s' t' n (sym l'))

pub same_pos : (a b : ℕ) → pos a ≡ pos b → a ≡ b
same_pos a b e = cc

module _ (x n : ℕ) (l m : Line) (x_few : x ≤ 999) (n_few : n ≤ 16) (legal_l : LegalLine n l) (legal_m : LegalLine n m) where
  same_line : line_text x l ≡ line_text x m → l ≡ m
  same_line e =
      let few_l : l.board ≤ 999 = omega (arith, legal_l.0) in
      let few_m : m.board ≤ 999 = omega (arith, legal_m.0) in
      let u_l = price_small l.u legal_l.1 in
      let u_m = price_small m.u legal_m.1 in
      let v_l = price_small l.v legal_l.2 in
      let v_m = price_small m.v legal_m.2 in
      let a = same_fronts (text 4 (pos x)) (text 4 (pos x)) _ _ 4 (long_small x x_few) (long_small x x_few) e in
      let b = same_fronts (text 4 (pos l.board)) (text 4 (pos m.board)) _ _ 4 (long_small l.board few_l) (long_small m.board few_m) a.1 in
      let c = same_fronts (text 20 l.u) (text 20 m.u) _ _ 20 (long_wide l.u u_l) (long_wide m.u u_m) b.1 in
      let d = same_fronts (text 20 l.v) (text 20 m.v) _ _ 20 (long_wide l.v v_l) (long_wide m.v v_m) c.1 in
      let board = same_pos l.board m.board (same_number 4 (pos l.board) (pos m.board) (omega arith) (omega arith) b.0) in
      let u = same_number 20 l.u m.u u_l u_m c.0 in
      let v = same_number 20 l.v m.v v_l v_m d.0 in
      λ i. record { board = board i; u = u i; v = v i }

  long_l : 49 ≡ length (line_text x l)
  long_l = long_line x l x_few (omega (arith, legal_l.0)) (price_small l.u legal_l.1) (price_small l.v legal_l.2)

  long_m : 49 ≡ length (line_text x m)
  long_m = long_line x m x_few (omega (arith, legal_m.0)) (price_small m.u legal_m.1) (price_small m.v legal_m.2)

pub same_lines : (ls ms : List Line) (x n : ℕ) → n ≤ 16 → x + length ls ≤ 16 → length ls ≡ length ms → LegalLines n ls → LegalLines n ms
    → lines_text x ls ≡ lines_text x ms → ls ≡ ms
unfolding LegalLines
same_lines [] [] x n few inside long legal_l legal_m e = refl
same_lines [] (m ∷ ms) x n few inside long legal_l legal_m e = absurd (omega arith)
same_lines (l ∷ ls) [] x n few inside long legal_l legal_m e = absurd (omega arith)
same_lines (l ∷ ls) (m ∷ ms) x n few inside long legal_l legal_m e =
    let x_few : x ≤ 999 = omega arith in
    let l₀ = legal_l 0 (omega arith) in
    let m₀ = legal_m 0 (omega arith) in
    let both = same_fronts (line_text x l) (line_text x m) (lines_text (x + 1) ls) (lines_text (x + 1) ms) 49
    (long_l x n l m x_few few l₀ m₀) (long_m x n l m x_few few l₀ m₀) e in
    let head = same_line x n l m x_few few l₀ m₀ both.0 in
    let tail = same_lines ls ms (x + 1) n few (omega arith) (omega arith) (λ k h. legal_l (suc k) (omega arith)) (λ k h. legal_m (suc k) (omega arith)) both.1 in
    λ i. head i ∷ tail i
