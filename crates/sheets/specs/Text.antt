-- The text of a number in a field of a sheet. Assumes nothing.
--     padded w t        t right-justified in w columns, with blanks in front
--     text w z          the number z in a field of w columns: its digits without leading zeros, a minus right before them
--     meant bs          the number that the minus signs and the digits of bs spell, whatever else stands there
--     reads w lo hi bs  the number from lo to hi whose text in w columns is bs, if there is one
--     Reads w lo hi bs z    z is such a number
--     ReadsExactly     reads finds such a number wherever there is one, and finds no other
use Rattle.std.specs.Prelude.{◌≡◌, ℕ, ◌+◌, ◌-◌, ◌*◌, ◌^◌, ◌≤◌, Bool, false, cond, ◌&&◌, ◌||◌, List, [], ◌∷◌, ◌++◌, length, replicate, ℤ, pos, neg_ℤ, ◌≤ℤ◌, Some, None, Option, ◌==◌, int_le, nat_le, unsigned_abs}
use Rattle.std.specs.Fmt.{signed_decimal}
use Rattle.std.specs.Str.{bytes_eq}

abbrev pub padded : ℕ → List ℕ → List ℕ
padded w t = replicate (w - length t) 32 ++ t

unfoldable pub text : ℕ → ℤ → List ℕ
text w z = padded w (signed_decimal z)

-- the number that the digits spell after acc, other bytes being passed over
abbrev pub spelled : ℕ → List ℕ → ℕ
spelled acc [] = acc
spelled acc (b ∷ bs) = spelled (cond (nat_le 48 b && nat_le b 57) (10 * acc + (b - 48)) acc) bs

-- whether a minus stands anywhere
abbrev pub dashed : List ℕ → Bool
dashed [] = false
dashed (b ∷ bs) = b == 45 || dashed bs

abbrev pub meant : List ℕ → ℤ
meant bs = cond (dashed bs) (neg_ℤ (pos (spelled 0 bs))) (pos (spelled 0 bs))

-- a number in its limits
abbrev pub within : ℤ → ℤ → ℤ → Bool
within lo hi z = int_le lo z && int_le z hi

unfoldable pub reads : ℕ → ℤ → ℤ → List ℕ → Option ℤ
reads w lo hi bs = cond (within lo hi (meant bs) && bytes_eq bs (text w (meant bs))) (Some (meant bs)) None

pub record Reads (w : ℕ) (lo hi : ℤ) (bs : List ℕ) (z : ℤ) : Type 0 where
  pub low : lo ≤ℤ z
  pub high : z ≤ℤ hi
  pub is : bs ≡ text w z

abbrev pub ReadsExactly : Type 0
ReadsExactly =
    (w : ℕ) (lo hi z : ℤ) (bs : List ℕ) → unsigned_abs z ≤ 2 ^ 62
    → (reads w lo hi bs ≡ Some z → Reads w lo hi bs z) × (Reads w lo hi bs z → reads w lo hi bs ≡ Some z)
