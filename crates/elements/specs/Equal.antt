-- Elements are equal where their words are.
use mathlib.Core.HLevel.{is_prop→PathP}
use Rattle.std.specs.Prelude.{◌≡◌, ℕ, ◌<◌}
use Rattle.std.proofs.Math.Bridge.{le_prop}
use Rattle.std.proofs.Common.{arith}
use Rattle.elements.specs.Pairs.{pair}
use Rattle.elements.specs.Words.{modulus, wrap, word}
use Rattle.elements.specs.declared.pair.Pair.{Pair}
use Rattle.elements.specs.declared.word.Word.{Word}

pub word_equal : (a b : Word) → a.value ≡ b.value → a ≡ b
word_equal a b p = λ i. record { value = p i; fits = is_prop→PathP (λ j. p j < modulus) (λ j. le_prop) a.fits b.fits i }

-- a word is the word of its own number
pub word_read : (a : Word) (n : ℕ) → a.value ≡ n → a ≡ word n
word_read a n e = word_equal a (word n) (omega (arith, a.fits))

pub pair_equal : (a b : Pair) → a.real.value ≡ b.real.value → a.imaginary.value ≡ b.imaginary.value → a ≡ b
pair_equal a b p q = λ i. record { real = word_equal a.real b.real p i; imaginary = word_equal a.imaginary b.imaginary q i }

pub pair_is : (a : Pair) (x y : ℕ) → a.real.value ≡ wrap x → a.imaginary.value ≡ wrap y → a ≡ pair x y
pair_is a x y p q = pair_equal a (pair x y) p q

pub pair_read : (a : Pair) (x y : ℕ) → a.real.value ≡ x → a.imaginary.value ≡ y → a ≡ pair x y
pair_read a x y p q = pair_is a x y (omega (arith, a.real.fits)) (omega (arith, a.imaginary.fits))
