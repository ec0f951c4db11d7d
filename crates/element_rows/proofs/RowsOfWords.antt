-- Rows of elements and their words, for any kind whose elements have w words each.
use Rattle.std.proofs.Common.{◌≡◌, ℕ, zero, suc, ◌+◌, ◌-◌, ◌*◌, ◌/◌, ◌<◌, ◌≤◌, List, [], ◌∷◌, ◌++◌, length, get_or, take, drop, set, sym, refl, ap, ◌∙◌, inl, inr, append_assoc, suc-mul, zero-mul, div-mul-le_self, add-one, arith, length-append}
use Rattle.std.proofs.lemmas.Nat.{mul-le, le-div}
use Rattle.std.proofs.lemmas.List.{take_at, drop_at, drop-drop, drop_more, set-append_right}
use Rattle.std.proofs.lemmas.Bool.{cases_lt}
use Rattle.element_rows.specs.Rows.{words_of_row, row_of_words}

-- the words of element k end before those of n elements do
pub room : (k n w : ℕ) → k < n → k * w + w ≤ n * w
room k n w h = let m : suc k * w ≤ n * w = mul-le (suc k) w n w h (omega arith) in omega (arith, suc-mul k w)

-- whether the words of element k are among l words, by division
pub inside : (l w k : ℕ) → k < l / w → k * w + w ≤ l
inside l w k h = omega (arith, room k (l / w) w h, div-mul-le_self l w)

pub outside : (l w k : ℕ) → 1 ≤ w → l / w ≤ k → l < k * w + w
outside l w k p h =
    elim (cases_lt l (k * w + w)) [ inl s ↦ s | inr s ↦ absurd (omega (arith, le-div (suc k) l w p (omega (arith, suc-mul k w, s)))) ]

module _ {E : Type 0} (words : E → List ℕ) (w : ℕ) (sized : (x : E) → length (words x) ≡ w) where
  pub length-words_of_row : (xs : List E) → length (words_of_row words xs) ≡ length xs * w
  length-words_of_row [] = sym (zero-mul w)
  length-words_of_row (x ∷ xs) =
      let h : length (words x) + length (words_of_row words xs) ≡ suc (length xs) * w = omega (arith, sized x, length-words_of_row xs, suc-mul (length xs) w) in
      length-append (words x) (words_of_row words xs) ∙ h

  -- the words of element k stand where those of the k before it end
  pub words_at : (packed : List E) (rest : List ℕ) (k : ℕ) (d : E) → k < length packed
      → take w (drop (k * w) (words_of_row words packed ++ rest)) ≡ words (get_or packed k d)
  words_at [] rest k d h = absurd (omega arith)
  words_at (x ∷ xs) rest zero d h =
      ap (λ n. take w (drop n (words_of_row words (x ∷ xs) ++ rest))) (zero-mul w)
      ∙ ap (take w) (append_assoc (words x) (words_of_row words xs) rest)
      ∙ take_at (words x) (words_of_row words xs ++ rest) w (sized x)
  words_at (x ∷ xs) rest (suc k) d h =
      let all = words_of_row words (x ∷ xs) ++ rest in
      let split : w + k * w ≡ suc k * w = omega (arith, suc-mul k w) in
      ap (λ n. take w (drop n all)) (sym split)
      ∙ ap (take w) (sym (drop-drop (k * w) w all))
      ∙ ap (λ t. take w (drop (k * w) t)) (ap (drop w) (append_assoc (words x) (words_of_row words xs) rest) ∙ drop_at (words x) (words_of_row words xs ++ rest) w (sized x))
      ∙ words_at xs rest k d (omega arith)

module _ {E : Type 0} (back : List ℕ → E) (w : ℕ) where
  pub length-row_of_words : (n : ℕ) (xs : List ℕ) → length (row_of_words back w n xs) ≡ n
  length-row_of_words zero xs = refl
  length-row_of_words (suc n) xs = ap suc (length-row_of_words n (drop w xs))

  row_of_words-push : (n : ℕ) (xs : List ℕ) → row_of_words back w (suc n) xs ≡ row_of_words back w n xs ++ back (take w (drop (n * w) xs)) ∷ []
  row_of_words-push zero xs = rw zero-mul refl
  row_of_words-push (suc n) xs =
      ap (λ t. back (take w xs) ∷ t)
      (row_of_words-push n (drop w xs) ∙ ap (λ t. row_of_words back w n (drop w xs) ++ back (take w t) ∷ []) (drop-drop (n * w) w xs ∙ ap (λ k. drop k xs) (let h : w + n * w ≡ suc n * w = omega (arith, suc-mul n w) in h)))

  -- one more element is read into the row
  pub unpack_more : (row : List E) (xs : List ℕ) (k : ℕ) → k < length row
      → set (row_of_words back w k xs ++ drop k row) k (back (take w (drop (k * w) xs))) ≡ row_of_words back w (k + 1) xs ++ drop (k + 1) row
  unpack_more row xs k h =
      let v = back (take w (drop (k * w) xs)) in
      let done = row_of_words back w k xs in
      let pushed : done ++ v ∷ [] ≡ row_of_words back w (k + 1) xs = sym (row_of_words-push k xs) ∙ ap (λ n. row_of_words back w n xs) (sym (add-one k)) in
      set-append_right done (drop k row) k k v (length-row_of_words k xs) (omega arith)
      ∙ ap (λ n. done ++ set (drop k row) n v) (let z : k - k ≡ 0 = omega arith in z)
      ∙ ap (λ t. done ++ set t 0 v) (drop_more row k v h)
      ∙ sym (append_assoc done (v ∷ []) (drop (k + 1) row))
      ∙ ap (λ t. t ++ drop (k + 1) row) pushed

module _ {E : Type 0} (words : E → List ℕ) (back : List ℕ → E) (w : ℕ) (sized : (x : E) → length (words x) ≡ w) (kept : (x : E) → back (words x) ≡ x) where
  pub round_trip : (row : List E) (rest : List ℕ) → row_of_words back w (length row) (words_of_row words row ++ rest) ≡ row
  round_trip [] rest = refl
  round_trip (x ∷ xs) rest =
      let split = append_assoc (words x) (words_of_row words xs) rest in
      let front : take w ((words x ++ words_of_row words xs) ++ rest) ≡ words x = ap (take w) split ∙ take_at (words x) (words_of_row words xs ++ rest) w (sized x) in
      let later : drop w ((words x ++ words_of_row words xs) ++ rest) ≡ words_of_row words xs ++ rest = ap (drop w) split ∙ drop_at (words x) (words_of_row words xs ++ rest) w (sized x) in
      ap (λ t. back t ∷ row_of_words back w (length xs) (drop w ((words x ++ words_of_row words xs) ++ rest))) front
      ∙ ap (λ t. t ∷ row_of_words back w (length xs) (drop w ((words x ++ words_of_row words xs) ++ rest))) (kept x)
      ∙ ap (λ t. x ∷ row_of_words back w (length xs) t) later
      ∙ ap (λ t. x ∷ t) (round_trip xs rest)
