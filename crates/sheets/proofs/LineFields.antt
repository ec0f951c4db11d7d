-- The fields of one line of a sheet, read one after the other.
use Rattle.std.proofs.Common.{◌≡◌, ℕ, ◌+◌, ◌-◌, ◌≤◌, true, List, [], ◌∷◌, ◌++◌, take, drop, pos, Some, None, sym, refl, ap, ◌∙◌, arith, take-add}
use Rattle.std.proofs.lemmas.Slice.Eq.{bytes_eq-Decides}
use Rattle.std.proofs.lemmas.List.{drop-drop}
use Rattle.std.specs.Str.{bytes_eq}
use Rattle.sheets.specs.Sheet.{first_illegal, line_fields, line_text, LegalLine, part, sheet_length, price_low, price_high, last_board}
use Rattle.sheets.specs.Text.{reads, text, Reads}
use Rattle.sheets.specs.declared.line.Line.{Line}
use Rattle.sheets.proofs.Fields.{within_yes}

pub part_join : (bs : List ℕ) (k a b : ℕ) → part bs k (a + b) ≡ part bs k a ++ part bs (k + a) b
part_join bs k a b = take-add a b (drop k bs) ∙ ap (λ t. take a (drop k bs) ++ take b t) (drop-drop a k bs)

join_at : (bs : List ℕ) (k a b m : ℕ) → k + a ≡ m → part bs k (a + b) ≡ part bs k a ++ part bs m b
join_at bs k a b m e = part_join bs k a b ∙ ap (λ i. part bs k a ++ part bs i b) e

line_parts : (bs : List ℕ) (k : ℕ)
    → part bs k 49 ≡ part bs k 4 ++ (part bs (k + 4) 4 ++ (part bs (k + 8) 20 ++ (part bs (k + 28) 20 ++ part bs (k + 48) 1)))
line_parts bs k =
    join_at bs k 4 45 (k + 4) refl
    ∙ ap (λ t. part bs k 4 ++ t)
    (join_at bs (k + 4) 4 41 (k + 8) (omega arith)
    ∙ ap (λ t. part bs (k + 4) 4 ++ t)
    (join_at bs (k + 8) 20 21 (k + 28) (omega arith)
    ∙ ap (λ t. part bs (k + 8) 20 ++ t) (join_at bs (k + 28) 20 1 (k + 48) (omega arith))))

module _ (bs : List ℕ) (n x : ℕ) (l : Line) (a : ℕ)
    (number : Some (pos a) ≡ reads 4 (pos x) (pos x) (part bs (sheet_length x) 4))
    (board : Some (pos l.board) ≡ reads 4 (pos 0) (last_board n) (part bs (sheet_length x + 4) 4))
    (u : Some l.u ≡ reads 20 price_low price_high (part bs (sheet_length x + 8) 20))
    (v : Some l.v ≡ reads 20 price_low price_high (part bs (sheet_length x + 28) 20))
    (ends : true ≡ bytes_eq (10 ∷ []) (part bs (sheet_length x + 48) 1)) where
  pub line_stands : first_illegal bs (line_fields n x) ≡ None
  line_stands = rw (← number, ← board, ← u, ← v, ← ends) refl

  pub line_reads : (x ≤ a) → (a ≤ x) → part bs (sheet_length x) 4 ≡ text 4 (pos a)
      → part bs (sheet_length x + 4) 4 ≡ text 4 (pos l.board)
      → Reads 20 price_low price_high (part bs (sheet_length x + 8) 20) l.u
      → Reads 20 price_low price_high (part bs (sheet_length x + 28) 20) l.v
      → part bs (sheet_length x) 49 ≡ line_text x l
  line_reads low high first second third fourth =
      let same : a ≡ x = omega arith in
      let one : part bs (sheet_length x) 4 ≡ text 4 (pos x) = first ∙ ap (λ i. text 4 (pos i)) same in
      let end : part bs (sheet_length x + 48) 1 ≡ 10 ∷ [] = sym ((bytes_eq-Decides (10 ∷ []) (part bs (sheet_length x + 48) 1)).0 (sym ends)) in
      line_parts bs (sheet_length x) ∙ rw (one, second, third.is, fourth.is, end) refl

  pub line_legal : 1 ≤ n → l.board ≤ n - 1
      → Reads 20 price_low price_high (part bs (sheet_length x + 8) 20) l.u
      → Reads 20 price_low price_high (part bs (sheet_length x + 28) 20) l.v
      → LegalLine n l
  line_legal some below third fourth =
      (omega arith, within_yes price_low price_high l.u third.low third.high, within_yes price_low price_high l.v fourth.low fourth.high)
