-- Arithmetic modulo 4,294,967,296, and the element of one word. Assumes nothing.
--     modulus              the number of values of a word
--     wrap n               n modulo it
--     word n               the word of n
--     word_one             the one
--     word_product a b     the product
--     word_words a         its words
--     word_back ws         the element of the words ws
use Rattle.std.specs.Prelude.{ℕ, ◌*◌, ◌%◌, List, [], ◌∷◌, slice_index}
use Rattle.std.proofs.Common.{lit<}
use Rattle.std.proofs.lemmas.Nat.{mod_below}
use Rattle.elements.specs.declared.word.Word.{Word}

abbrev pub modulus : ℕ
modulus = 4294967296

abbrev pub wrap : ℕ → ℕ
wrap n = n % modulus

abbrev pub word : ℕ → Word
word n = record { value = wrap n; fits = mod_below n modulus (lit< tt) }

abbrev pub word_one : Word
word_one = word 1

abbrev pub word_product : Word → Word → Word
word_product a b = word (a.value * b.value)

abbrev pub word_words : Word → List ℕ
word_words a = a.value ∷ []

abbrev pub word_back : List ℕ → Word
word_back ws = word (slice_index ws 0)
