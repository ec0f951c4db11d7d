-- Texts that are put side by side.
use Rattle.std.proofs.Common.{◌≡◌, ℕ, ◌+◌, ◌*◌, ◌^◌, ◌<◌, ◌≤◌, List, [], ◌∷◌, ◌++◌, length, get_or, take, ℤ, pos, nat_abs, sym, refl, ap, ◌∙◌, append_assoc, arith, length-append}
use lib.Seq.{paste}
use Rattle.std.proofs.lemmas.List.Edits.{paste-paste}
use Rattle.std.proofs.lemmas.List.{length-take-le, take_more}
use Rattle.std.proofs.lemmas.Int.{ints}
use Rattle.sheets.specs.Lines.{blank}
use Rattle.sheets.specs.Sheet.{LegalLine, first_line, line_text, lines_text}
use Rattle.sheets.specs.Text.{text}
use Rattle.sheets.specs.declared.line.Line.{Line}
use Rattle.sheets.proofs.Fields.{length-text, room_small, room_wide, price_small}
use Rattle.sheets.proofs.LinesRead.{lines_push}

-- t right after s
pub put_next : (d b c : List ℕ) (at m n k : ℕ) (s t : List ℕ) → b ≡ paste d at s n → c ≡ paste b m t k → n ≡ length s → k ≡ length t → at + n ≡ m → at ≤ length d
    → c ≡ paste d at (s ++ t) (n + k)
put_next d b c at m n k s t p q l r e inside =
    q ∙ ap (λ x. paste x m t k) p ∙ ap (λ i. paste (paste d at s n) i t k) (sym e) ∙ paste-paste d at s t n k l r inside

pub long_next : (n k : ℕ) (s t : List ℕ) → n ≡ length s → k ≡ length t → n + k ≡ length (s ++ t)
long_next n k s t l r = let e = length-append s t in omega arith

pub long_small : (n : ℕ) → n ≤ 999 → 4 ≡ length (text 4 (pos n))
long_small n few = sym (length-text 4 (pos n) (room_small n n few (pos n) (omega (arith, ints)) (omega (arith, ints))))

pub long_wide : (z : ℤ) → nat_abs z ≤ 2 ^ 62 → 20 ≡ length (text 20 z)
long_wide z small = sym (length-text 20 z (room_wide z z small small z (omega (arith, ints)) (omega (arith, ints))))

pub line_put : (d b₁ b₂ b₃ b₄ b₅ : List ℕ) (at x : ℕ) (l : Line) → at ≤ length d → x ≤ 999 → l.board ≤ 999 → nat_abs l.u ≤ 2 ^ 62 → nat_abs l.v ≤ 2 ^ 62
    → b₁ ≡ paste d at (text 4 (pos x)) 4
    → b₂ ≡ paste b₁ (at + 4) (text 4 (pos l.board)) 4
    → b₃ ≡ paste b₂ (at + 8) (text 20 l.u) 20
    → b₄ ≡ paste b₃ (at + 28) (text 20 l.v) 20
    → b₅ ≡ paste b₄ (at + 48) (10 ∷ []) 1
    → b₅ ≡ paste d at (line_text x l) 49
line_put d b₁ b₂ b₃ b₄ b₅ at x l inside x_few b_few u_few v_few p₁ p₂ p₃ p₄ p₅ =
    let t₁ = text 4 (pos x) in
    let t₂ = text 4 (pos l.board) in
    let t₃ = text 20 l.u in
    let t₄ = text 20 l.v in
    let l₁ : 4 ≡ length (text 4 (pos x)) = long_small x x_few in
    let l₂ : 8 ≡ length (t₁ ++ t₂) = long_next 4 4 t₁ t₂ l₁ (long_small l.board b_few) in
    let l₃ : 28 ≡ length ((t₁ ++ t₂) ++ t₃) = long_next 8 20 (t₁ ++ t₂) t₃ l₂ (long_wide l.u u_few) in
    let l₄ : 48 ≡ length (((t₁ ++ t₂) ++ t₃) ++ t₄) = long_next 28 20 ((t₁ ++ t₂) ++ t₃) t₄ l₃ (long_wide l.v v_few) in
    let q₂ = put_next d b₁ b₂ at (at + 4) 4 4 t₁ t₂ p₁ p₂ l₁ (long_small l.board b_few) refl inside in
    let q₃ = put_next d b₂ b₃ at (at + 8) 8 20 (t₁ ++ t₂) t₃ q₂ p₃ l₂ (long_wide l.u u_few) refl inside in
    let q₄ = put_next d b₃ b₄ at (at + 28) 28 20 ((t₁ ++ t₂) ++ t₃) t₄ q₃ p₄ l₃ (long_wide l.v v_few) refl inside in
    let q₅ = put_next d b₄ b₅ at (at + 48) 48 1 (((t₁ ++ t₂) ++ t₃) ++ t₄) (10 ∷ []) q₄ p₅ l₄ refl refl inside in
    q₅ ∙ ap (λ t. paste d at t 49) (simp append_assoc)

pub first_put : (d b₁ b₂ b₃ : List ℕ) (n bill : ℕ) → n ≤ 999 → bill ≤ 2 ^ 62
    → b₁ ≡ paste d 0 (text 4 (pos n)) 4 → b₂ ≡ paste b₁ 4 (text 20 (pos bill)) 20 → b₃ ≡ paste b₂ 24 (10 ∷ []) 1
    → b₃ ≡ paste d 0 (first_line n bill) 25
first_put d b₁ b₂ b₃ n bill n_few b_few p₁ p₂ p₃ =
    let t₁ = text 4 (pos n) in
    let t₂ = text 20 (pos bill) in
    let l₂ : 24 ≡ length (t₁ ++ t₂) = long_next 4 20 t₁ t₂ (long_small n n_few) (long_wide (pos bill) b_few) in
    let q₂ = put_next d b₁ b₂ 0 4 4 20 t₁ t₂ p₁ p₂ (long_small n n_few) (long_wide (pos bill) b_few) refl (omega arith) in
    let q₃ = put_next d b₂ b₃ 0 24 24 1 (t₁ ++ t₂) (10 ∷ []) q₂ p₃ l₂ refl refl (omega arith) in
    q₃ ∙ ap (λ t. paste d 0 t 25) (simp append_assoc)

pub long_line : (x : ℕ) (l : Line) → x ≤ 999 → l.board ≤ 999 → nat_abs l.u ≤ 2 ^ 62 → nat_abs l.v ≤ 2 ^ 62 → 49 ≡ length (line_text x l)
long_line x l x_few b_few u_few v_few =
    long_next 4 45 _ _ (long_small x x_few)
    (long_next 4 41 _ _ (long_small l.board b_few) (long_next 20 21 _ _ (long_wide l.u u_few) (long_next 20 1 _ _ (long_wide l.v v_few) refl)))

-- one line more
pub lines_put : (d b c : List ℕ) (n x : ℕ) (lines : List Line) → 25 ≤ length d → x < n → n ≤ 16 → length lines ≡ 16 → LegalLine n (get_or lines x blank)
    → b ≡ paste d 25 (lines_text 0 (take x lines)) (49 * x) → 49 * x ≡ length (lines_text 0 (take x lines))
    → c ≡ paste b (25 + 49 * x) (line_text x (get_or lines x blank)) 49
    → (c ≡ paste d 25 (lines_text 0 (take (x + 1) lines)) (49 * (x + 1))) × (49 * (x + 1) ≡ length (lines_text 0 (take (x + 1) lines)))
lines_put d b c n x lines inside x_few n_few sized legal p l q =
    let line = get_or lines x blank in
    let here : x < length lines = omega arith in
    let one : 49 ≡ length (line_text x line) = long_line x line (omega arith) (omega (arith, legal.0)) (price_small line.u legal.1) (price_small line.v legal.2) in
    let size : 49 * x + 49 ≡ 49 * (x + 1) = omega arith in
    let more : lines_text 0 (take x lines) ++ line_text x line ≡ lines_text 0 (take (x + 1) lines) =
    sym (ap (lines_text 0) (take_more lines x blank here) ∙ lines_push 0 (take x lines) line x (omega (arith, length-take-le x lines (omega arith)))) in
    let next = put_next d b c 25 (25 + 49 * x) (49 * x) 49 (lines_text 0 (take x lines)) (line_text x line) p q l one refl inside in
    let long = long_next (49 * x) 49 (lines_text 0 (take x lines)) (line_text x line) l one in (
      next ∙ ap (λ t. paste d 25 t (49 * x + 49)) more ∙ ap (paste d 25 (lines_text 0 (take (x + 1) lines))) size,
      sym size ∙ long ∙ ap length more,
    )

-- the first line and the others make the sheet, and what follows it is as before
