-- The element of a real and an imaginary word. Assumes nothing.
--     negative n           the number that makes n vanish modulo the modulus
--     pair x y             x + yi
--     pair_one             the one
--     pair_product a b     the complex product: (x + yi)(u + vi) = (xu - yv) + (xv + yu)i
--     pair_conjugate a     the conjugate
--     pair_words a         its words
--     pair_back ws         the element of the words ws
--     ComplexSamples       (1 + 2i)(3 - i) = 5 + 5i, and the conjugate of 3 + 5i is 3 + 4294967291i
use Rattle.std.specs.Prelude.{◌≡◌, ℕ, ◌+◌, ◌-◌, ◌*◌, List, [], ◌∷◌, slice_index}
use Rattle.elements.specs.Words.{modulus, wrap, word}
use Rattle.elements.specs.declared.pair.Pair.{Pair}

abbrev pub negative : ℕ → ℕ
negative n = modulus - wrap n

abbrev pub pair : ℕ → ℕ → Pair
pair x y = record { real = word x; imaginary = word y }

abbrev pub pair_one : Pair
pair_one = pair 1 0

abbrev pub pair_product : Pair → Pair → Pair
pair_product a b =
    pair (a.real.value * b.real.value + negative (a.imaginary.value * b.imaginary.value))
    (a.real.value * b.imaginary.value + a.imaginary.value * b.real.value)

abbrev pub pair_conjugate : Pair → Pair
pair_conjugate a = pair a.real.value (negative a.imaginary.value)

abbrev pub pair_words : Pair → List ℕ
pair_words a = a.real.value ∷ a.imaginary.value ∷ []

abbrev pub pair_back : List ℕ → Pair
pair_back ws = pair (slice_index ws 0) (slice_index ws 1)

abbrev pub ComplexSamples : Type 0
ComplexSamples =
    (pair_product (pair 1 2) (pair 3 (negative 1)) ≡ pair 5 5)
    × (pair_conjugate (pair 3 5) ≡ pair 3 4294967291)
