-- When a field is read as a number, and when it is not.
use Rattle.std.proofs.Common.{◌≡◌, ℕ, zero, suc, ◌-◌, ◌^◌, ◌<◌, ◌≤◌, Bool, true, false, cond, ◌&&◌, List, ◌++◌, length, take, drop, replicate, ℤ, pos, negsuc, neg_ℤ, nat_abs, ◌≤ℤ◌, ◌<ℤ◌, IfSome, Some, None, decimal, Option, sym, refl, ap, ◌∙◌, inl, inr, arith, length-append}
use lib.ListN.{length-replicate}
use lib.Signed.{le_z}
use Rattle.std.proofs.lemmas.Fmt.{length-decimal-le}
use Rattle.std.proofs.lemmas.Slice.Eq.{bytes_eq-Decides}
use Rattle.std.proofs.lemmas.List.{drop-append-le, drop-replicate, take_all}
use Rattle.std.proofs.lemmas.Int.{ints}
use Rattle.std.proofs.lemmas.Bool.{cases_Bool, cond-true, cond-false, and_from, and_left, and_right, and_parts, lt-leb}
use Rattle.std.specs.Fmt.{signed_decimal}
use Rattle.std.specs.Str.{bytes_eq}
use Rattle.std.proofs.lemmas.Option.{none-some, same_Some}
use Rattle.sheets.specs.Sheet.{price_low, price_high}
use Rattle.sheets.specs.Text.{padded, text, spelled, dashed, meant, within, reads, Reads}

-- a text in fewer columns is the end of the text in twenty
gap : (a w : ℕ) → a ≤ w → w ≤ 20 → 20 - a - (20 - w) ≡ w - a
gap a w room le = omega arith

padded_narrow : (w : ℕ) (t : List ℕ) → w ≤ 20 → length t ≤ w → drop (20 - w) (padded 20 t) ≡ padded w t
padded_narrow w t le room =
    let l : 20 - w ≤ length (replicate {A = ℕ} (20 - length t) 32) = simp length-replicate (omega arith) in
    drop-append-le (20 - w) (replicate (20 - length t) 32) t l
    ∙ ap (λ b. b ++ t) (drop-replicate (20 - w) (20 - length t) 32 ∙ ap (λ i. replicate i 32) (gap (length t) w room le))

pub text_narrow : (w : ℕ) (z : ℤ) → w ≤ 20 → length (signed_decimal z) ≤ w → drop (20 - w) (text 20 z) ≡ text w z
unfolding text
text_narrow w z le room = padded_narrow w (signed_decimal z) le room

pub length-text : (w : ℕ) (z : ℤ) → length (signed_decimal z) ≤ w → length (text w z) ≡ w
unfolding text
length-text w z room = length-append (replicate (w - length (signed_decimal z)) 32) (signed_decimal z) ∙ simp length-replicate (omega arith)

-- the columns of a text that a field of w columns is held against
pub text_part : (w : ℕ) (z : ℤ) (columns : List ℕ) → w ≤ 20 → length (signed_decimal z) ≤ w → columns ≡ text 20 z
    → take (20 - (20 - w)) (drop (20 - w) columns) ≡ text w z
text_part w z columns le room e =
    let n : length (text w z) ≤ 20 - (20 - w) = omega (arith, length-text w z room) in
    ap (λ t. take (20 - (20 - w)) (drop (20 - w) t)) e ∙ ap (take (20 - (20 - w))) (text_narrow w z le room) ∙ take_all (20 - (20 - w)) (text w z) n

pub same_no : (xs ys : List ℕ) → (xs ≡ ys → ⊥) → bytes_eq xs ys ≡ false
same_no xs ys n =
    elim (cases_Bool (bytes_eq xs ys)) [ inl t ↦ absurd (n ((bytes_eq-Decides xs ys).0 t)) | inr f ↦ f ]

-- every number of a range fits its field
pub room_small : (lo hi : ℕ) → hi ≤ 999 → (z : ℤ) → pos lo ≤ℤ z → z ≤ℤ pos hi → length (signed_decimal z) ≤ 4
room_small lo hi few (pos n) l h = length-decimal-le 4 n (omega arith) (omega (arith, ints)) (omega (arith, ints))
room_small lo hi few (negsuc n) l h = absurd (omega (arith, ints))

pub room_wide : (lo hi : ℤ) → nat_abs lo ≤ 2 ^ 62 → nat_abs hi ≤ 2 ^ 62 → (z : ℤ) → lo ≤ℤ z → z ≤ℤ hi → length (signed_decimal z) ≤ 20
room_wide lo (pos m) a b (pos n) l h = length-decimal-le 20 n (omega arith) (omega (arith, ints)) (omega (arith, ints))
room_wide lo (negsuc m) a b (pos n) l h = absurd (omega (arith, ints))
room_wide (pos m) hi a b (negsuc n) l h = absurd (omega (arith, ints))
room_wide (negsuc m) hi a b (negsuc n) l h =
    let s : n ≤ m = omega (arith, ints) in
    let d : length (decimal (suc n)) ≤ 19 = length-decimal-le 19 (suc n) (omega arith) (omega arith) (omega arith) in omega arith

pub within_yes : (lo hi z : ℤ) → lo ≤ℤ z → z ≤ℤ hi → within lo hi z ≡ true
within_yes lo hi z l h = grind (arith, ints)

within_low : (lo hi z : ℤ) → z <ℤ lo → within lo hi z ≡ false
within_low lo hi z l = and_left (le_z lo z) (le_z z hi) (grind (arith, ints))

within_high : (lo hi z : ℤ) → hi <ℤ z → within lo hi z ≡ false
within_high lo hi z h = and_right (le_z lo z) (le_z z hi) (grind (arith, ints))

below : (lo : ℤ) (s : ℕ) → nat_abs lo ≤ 2 ^ 62 → 2 ^ 62 < s → le_z lo (neg_ℤ (pos s)) ≡ false
below (pos n) zero l far = absurd (omega arith)
below (pos n) (suc s) l far = refl
below (negsuc n) zero l far = absurd (omega arith)
below (negsuc n) (suc s) l far = lt-leb s n (omega arith)

above : (hi : ℤ) (s : ℕ) → nat_abs hi ≤ 2 ^ 62 → 2 ^ 62 < s → le_z (pos s) hi ≡ false
above (pos n) s h far = lt-leb s n (omega arith)
above (negsuc n) s h far = refl

within_far : (lo hi : ℤ) (s : ℕ) (b : Bool) → nat_abs lo ≤ 2 ^ 62 → nat_abs hi ≤ 2 ^ 62 → 2 ^ 62 < s
    → within lo hi (cond b (neg_ℤ (pos s)) (pos s)) ≡ false
within_far lo hi s true l h far = and_left (le_z lo (neg_ℤ (pos s))) (le_z (neg_ℤ (pos s)) hi) (below lo s l far)
within_far lo hi s false l h far = and_right (le_z lo (pos s)) (le_z (pos s) hi) (above hi s h far)

pub within_from : (lo hi z : ℤ) → within lo hi z ≡ true → (lo ≤ℤ z) × (z ≤ℤ hi)
within_from lo hi z e =
    let both = and_parts (le_z lo z) (le_z z hi) e in (grind (arith, ints), grind (arith, ints))

module _ (w : ℕ) (lo hi : ℤ) (bs : List ℕ) where
  none_by_limits : within lo hi (meant bs) ≡ false → None ≡ reads w lo hi bs
  unfolding reads
  none_by_limits e = sym (cond-false _ _ _ (and_left (within lo hi (meant bs)) _ e))

  pub reads_far : nat_abs lo ≤ 2 ^ 62 → nat_abs hi ≤ 2 ^ 62 → 2 ^ 62 < spelled 0 bs → None ≡ reads w lo hi bs
  reads_far l h far = none_by_limits (within_far lo hi (spelled 0 bs) (dashed bs) l h far)

  pub reads_low : (z : ℤ) → z ≡ meant bs → z <ℤ lo → None ≡ reads w lo hi bs
  reads_low z e l = none_by_limits (ap (within lo hi) (sym e) ∙ within_low lo hi z l)

  pub reads_high : (z : ℤ) → z ≡ meant bs → hi <ℤ z → None ≡ reads w lo hi bs
  reads_high z e h = none_by_limits (ap (within lo hi) (sym e) ∙ within_high lo hi z h)

  pub reads_text : (z : ℤ) → z ≡ meant bs → lo ≤ℤ z → z ≤ℤ hi → bs ≡ text w z → Some z ≡ reads w lo hi bs
  unfolding reads
  reads_text z e l h t =
      let same : bytes_eq bs (text w (meant bs)) ≡ true = (bytes_eq-Decides bs (text w (meant bs))).1 (t ∙ ap (text w) e) in
      let inside : within lo hi (meant bs) ≡ true = ap (within lo hi) (sym e) ∙ within_yes lo hi z l h in
      ap Some e ∙ sym (cond-true _ _ _ (and_from (within lo hi (meant bs)) _ inside same))

  pub reads_other : (z : ℤ) → z ≡ meant bs → (bs ≡ text w z → ⊥) → None ≡ reads w lo hi bs
  unfolding reads
  reads_other z e n =
      let same : bytes_eq bs (text w (meant bs)) ≡ false = same_no bs (text w (meant bs)) (λ t. n (t ∙ ap (text w) (sym e))) in
      sym (cond-false _ _ _ (and_right (within lo hi (meant bs)) _ same))

  pub reads_found : (o : Option ℤ) → o ≡ reads w lo hi bs → IfSome o (λ z. Reads w lo hi bs z)
  unfolding reads
  reads_found None e = tt
  reads_found (Some z) e =
      elim (cases_Bool (within lo hi (meant bs) && bytes_eq bs (text w (meant bs)))) [
        | inl t ↦
            (let is : z ≡ meant bs = same_Some z (meant bs) (e ∙ cond-true _ _ _ t) in
            let both = and_parts (within lo hi (meant bs)) _ t in
            let inside : within lo hi z ≡ true = ap (within lo hi) is ∙ both.0 in
            record {
              low = (within_from lo hi z inside).0;
              high = (within_from lo hi z inside).1;
              is = (bytes_eq-Decides bs (text w (meant bs))).0 both.1 ∙ ap (text w) (sym is);
            })
        | inr f ↦ absurd (none-some z (sym (e ∙ cond-false _ _ _ f)))
      ]

  pub reads_short : ((z : ℤ) → lo ≤ℤ z → z ≤ℤ hi → length (signed_decimal z) ≤ w) → (length bs ≡ w → ⊥) → None ≡ reads w lo hi bs
  reads_short room short =
      elim (cases_Bool (within lo hi (meant bs))) [
        | inl t ↦
            (let inside = within_from lo hi (meant bs) t in
            reads_other (meant bs) refl (λ e. short (ap length e ∙ length-text w (meant bs) (room (meant bs) inside.0 inside.1))))
        | inr f ↦ none_by_limits f
      ]

pub price_small : (z : ℤ) → within price_low price_high z ≡ true → nat_abs z ≤ 2 ^ 62
price_small (pos n) e = let h = within_from price_low price_high (pos n) e in omega (arith, ints)
price_small (negsuc n) e = let h = within_from price_low price_high (negsuc n) e in omega (arith, ints)
