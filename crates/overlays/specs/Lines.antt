-- The union of two lists of splits of one side. Assumes nothing.
--     Lines size zs          zs rises strictly from 0 to the size
--     among v xs             whether v is an entry of xs
--     Union size xs ys zs    zs so rises, and a number is an entry of zs exactly if it is one of xs or of ys
use Rattle.std.specs.Prelude.{◌≡◌, ℕ, ◌+◌, ◌-◌, ◌<◌, ◌≤◌, Bool, false, ◌||◌, List, [], ◌∷◌, length, ◌==◌, slice_index, slice_index_or}

pub record Lines (size : ℕ) (zs : List ℕ) : Type 0 where
  pub first : slice_index_or zs 0 0 ≡ 0
  pub rises : (k : ℕ) → k + 1 < length zs → slice_index zs k < slice_index zs (k + 1)
  pub last : slice_index_or zs (length zs - 1) 0 ≡ size
  pub long : 2 ≤ length zs

abbrev pub among : ℕ → List ℕ → Bool
among v [] = false
among v (x ∷ xs) = v == x || among v xs

pub record Union (size : ℕ) (xs ys zs : List ℕ) : Type 0 where
  pub lines : Lines size zs
  pub entries : (v : ℕ) → among v zs ≡ (among v xs || among v ys)
