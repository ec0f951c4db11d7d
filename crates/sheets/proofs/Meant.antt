-- The text of a number spells that number.
use Rattle.std.proofs.Common.{◌≡◌, ℕ, zero, suc, ◌+◌, ◌-◌, ◌*◌, ◌/◌, ◌%◌, ◌^◌, ◌<◌, ◌≤◌, true, false, cond, ◌&&◌, ◌||◌, eqb, leb, List, [], ◌∷◌, ◌++◌, length, replicate, ℤ, pos, negsuc, nat_abs, ◌≤ℤ◌, Some, decimal, sym, refl, ap, ◌∙◌, inl, inr, arith}
use Rattle.std.proofs.lemmas.Fmt.{decimal_by_steps}
use Rattle.std.proofs.lemmas.Bool.{both_ways, cases_Bool, or_left, cond-true, and_from, le-leb, ne_eqb}
use Rattle.sheets.specs.Text.{text, spelled, dashed, meant, reads, ReadsExactly}
use Rattle.sheets.proofs.Fields.{reads_found, reads_text}

spelled_append : (xs ys : List ℕ) (acc : ℕ) → spelled acc (xs ++ ys) ≡ spelled (spelled acc xs) ys
spelled_append [] ys acc = refl
spelled_append (x ∷ xs) ys acc = spelled_append xs ys (cond (leb 48 x && leb x 57) (10 * acc + (x - 48)) acc)

dashed_append : (xs ys : List ℕ) → dashed xs ≡ false → dashed (xs ++ ys) ≡ dashed ys
dashed_append [] ys e = refl
dashed_append (x ∷ xs) ys e =
    elim (cases_Bool (eqb x 45)) [
      | inl t ↦ absurd (both_ways (eqb x 45 || dashed xs) e (or_left (eqb x 45) (dashed xs) t))
      | inr f ↦ ap (λ b. b || dashed (xs ++ ys)) f ∙ dashed_append xs ys (sym (ap (λ b. b || dashed xs) f) ∙ e)
    ]

spelled_blanks : (acc k : ℕ) (t : List ℕ) → spelled acc (replicate k 32 ++ t) ≡ spelled acc t
spelled_blanks acc zero t = refl
spelled_blanks acc (suc k) t = spelled_blanks acc k t

dashed_blanks : (k : ℕ) (t : List ℕ) → dashed (replicate k 32 ++ t) ≡ dashed t
dashed_blanks zero t = refl
dashed_blanks (suc k) t = dashed_blanks k t

digit_adds : (acc d : ℕ) → d < 10 → spelled acc ((48 + d) ∷ []) ≡ 10 * acc + d
digit_adds acc d l =
    cond-true (leb 48 (48 + d) && leb (48 + d) 57) _ _ (and_from _ _ (le-leb 48 (48 + d) (omega arith)) (le-leb (48 + d) 57 (omega arith)))
    ∙ (let s : 10 * acc + (48 + d - 48) ≡ 10 * acc + d = omega arith in s)

digit_plain : (d : ℕ) → d < 10 → dashed ((48 + d) ∷ []) ≡ false
digit_plain d l = ap (λ b. b || false) (ne_eqb (48 + d) 45 (λ e. omega arith))

decimal_spells : (n : ℕ) → n < 2 ^ 64 → (spelled 0 (decimal n) ≡ n) × (dashed (decimal n) ≡ false)
decimal_spells =
    decimal_by_steps (λ n ds. (spelled 0 ds ≡ n) × (dashed ds ≡ false))
    (λ n l. (digit_adds 0 n l ∙ (let s : 10 * 0 + n ≡ n = omega arith in s), digit_plain n l))
    (λ n ds l r. (
      spelled_append ds _ 0 ∙ ap (λ a. spelled a ((48 + n % 10) ∷ [])) r.0 ∙ digit_adds (n / 10) (n % 10) (omega arith) ∙ (let s : 10 * (n / 10) + n % 10 ≡ n = omega arith in s),
      dashed_append ds _ r.1 ∙ digit_plain (n % 10) (omega arith),
    ))

pub meant_text : (w : ℕ) (z : ℤ) → nat_abs z ≤ 2 ^ 62 → meant (text w z) ≡ z
unfolding text
meant_text w (pos n) small =
    let d = decimal_spells n (omega arith) in
    let minus : dashed (replicate (w - length (decimal n)) 32 ++ decimal n) ≡ false = dashed_blanks (w - length (decimal n)) (decimal n) ∙ d.1 in
    let value : spelled 0 (replicate (w - length (decimal n)) 32 ++ decimal n) ≡ n = spelled_blanks 0 (w - length (decimal n)) (decimal n) ∙ d.0 in
    rw (minus, value) refl
meant_text w (negsuc n) small =
    let d = decimal_spells (suc n) (omega arith) in
    let minus : dashed (replicate (w - suc (length (decimal (suc n)))) 32 ++ 45 ∷ decimal (suc n)) ≡ true = dashed_blanks (w - suc (length (decimal (suc n)))) (45 ∷ decimal (suc n)) in
    let value : spelled 0 (replicate (w - suc (length (decimal (suc n)))) 32 ++ 45 ∷ decimal (suc n)) ≡ suc n = spelled_blanks 0 (w - suc (length (decimal (suc n)))) (45 ∷ decimal (suc n)) ∙ d.0 in
    rw (minus, value) refl

pub reads_back : (w : ℕ) (lo hi z : ℤ) → nat_abs z ≤ 2 ^ 62 → lo ≤ℤ z → z ≤ℤ hi → reads w lo hi (text w z) ≡ Some z
reads_back w lo hi z small low high = sym (reads_text w lo hi (text w z) z (sym (meant_text w z small)) low high refl)

pub same_number : (w : ℕ) (y z : ℤ) → nat_abs y ≤ 2 ^ 62 → nat_abs z ≤ 2 ^ 62 → text w y ≡ text w z → y ≡ z
same_number w y z a b e = sym (meant_text w y a) ∙ ap meant e ∙ meant_text w z b

pub reads_exactly : ReadsExactly
reads_exactly w lo hi z bs small =
    (λ e. reads_found w lo hi bs (Some z) (sym e), λ r. ap (reads w lo hi) r.is ∙ reads_back w lo hi z small r.low r.high)
