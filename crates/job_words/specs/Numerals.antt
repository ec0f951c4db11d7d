-- Numbers as words of a text write them. Assumes nothing.
--     value_of ds         the number that decimal digits write
--     Writes k w          the word w is one or more decimal digits, whose number fits k bits
--     Reads k n w r       r is the number of the word w, read as a value that stands for the number n of it,
--                         and there is one exactly where the word writes a number of k bits
use Rattle.std.specs.Prelude.{◌≡◌, ℕ, ◌+◌, ◌-◌, ◌*◌, ◌^◌, ◌<◌, true, List, [], ◌∷◌, length, Option, MatchOption}
use Rattle.std.specs.Str.{all_ascii_digits}

abbrev pub value_after : ℕ → List ℕ → ℕ
value_after n [] = n
value_after n (c ∷ cs) = value_after (10 * n + (c - 48)) cs

abbrev pub value_of : List ℕ → ℕ
value_of ds = value_after 0 ds

abbrev pub Writes : ℕ → List ℕ → Type 0
Writes k w = (all_ascii_digits w ≡ true) × (0 < length w) × (value_of w < 2 ^ k)

abbrev pub Reads : {N : Type 0} → ℕ → (N → ℕ) → List ℕ → Option N → Type 0
Reads k number w r = MatchOption r (Writes k w → ⊥) (λ n. Writes k w × (number n ≡ value_of w))
