-- Rows of elements as words. Assumes nothing.
--     words_of_row words row          the words of the elements, one after another
--     row_of_words back w n xs        the n elements whose words, w each, stand at the front of xs
--     Packed laid before after r      the answer and the buffer after packing: None, and no change, where the words
--                                     do not fit; else their number, and the words before the rest of the buffer
--     Unpacked due xs row read after r     the answer and the row after unpacking: None, and no change, where fewer
--                                     words than due are there; else their number, and the elements read
--     RoundTrip words xs row after    where xs begins with the words of as many elements as the row has, these are read
--     Kept words xs k r               where xs begins with the words of more than k elements, r is the element k of these
use Rattle.std.specs.Prelude.{◌≡◌, ℕ, zero, suc, ◌<◌, ◌≤◌, List, [], ◌∷◌, ◌++◌, length, take, drop, Option, MatchOption}
use Rattle.std.specs.List.{flat_map, slice_get}

abbrev pub words_of_row : {E : Type 0} → (E → List ℕ) → List E → List ℕ
words_of_row words row = flat_map words row

abbrev pub row_of_words : {E : Type 0} → (List ℕ → E) → ℕ → ℕ → List ℕ → List E
row_of_words back w zero xs = []
row_of_words back w (suc n) xs = back (take w xs) ∷ row_of_words back w n (drop w xs)

abbrev pub Packed : List ℕ → List ℕ → List ℕ → Option ℕ → Type 0
Packed laid before after r =
    MatchOption r ((length before < length laid) × (after ≡ before))
    (λ n. (n ≡ length laid) × (n ≤ length before) × (after ≡ laid ++ drop n before))

abbrev pub Unpacked : {E : Type 0} → ℕ → List ℕ → List E → List E → List E → Option ℕ → Type 0
Unpacked due xs row read after r =
    MatchOption r ((length xs < due) × (after ≡ row)) (λ n. (n ≡ due) × (n ≤ length xs) × (after ≡ read))

abbrev pub RoundTrip : {E : Type 0} → (E → List ℕ) → List ℕ → List E → List E → Type 0
RoundTrip {E} words xs row after =
    (packed : List E) (rest : List ℕ) → xs ≡ words_of_row words packed ++ rest → length packed ≡ length row → after ≡ packed

abbrev pub Kept : {E : Type 0} → (E → List ℕ) → List ℕ → ℕ → Option E → Type 0
Kept {E} words xs k r =
    (packed : List E) (rest : List ℕ) → xs ≡ words_of_row words packed ++ rest → k < length packed → r ≡ slice_get packed k
