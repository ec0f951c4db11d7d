-- Lists of splits, which cut a side of a matrix into blocks. Assumes nothing.
--     split_rule size    what may stand in the list of splits of a side of this size: 0 first, then numbers
--                        that rise strictly and do not pass the size, and the end right after the size;
--                        the 33rd number is the size, since nothing may follow it
--     Cuts size xs       what the rule comes to: 2 to 33 numbers that begin with 0, rise strictly and end with the size
--     spans xs           the number of blocks that xs cuts the side into
--     Within xs k i      block k of the side covers index i
--     covering xs i      the block that covers i: as many as there are splits past the first that are not above i
--     Covered            each index of a side is within exactly one of its blocks, the covering one
use Rattle.std.specs.Prelude.{◌≡◌, ℕ, ◌+◌, ◌-◌, ◌<◌, ◌≤◌, Bool, false, ◌&&◌, ◌||◌, leb, List, length, drop, Some, None, Option, ◌==◌, nat_le, nat_lt, slice_index, slice_index_or}
use Rattle.std.specs.List.{prefix_len}

abbrev pub split_rule : ℕ → ℕ → Option ℕ → Option ℕ → Bool
split_rule size k None None = false
split_rule size k None (Some x) = k == 0 && x == 0
split_rule size k (Some p) None = p == size
split_rule size k (Some p) (Some x) = nat_lt p x && (nat_le x size && (nat_lt k 32 || (k == 32 && x == size)))

pub record Cuts (size : ℕ) (xs : List ℕ) : Type 0 where
  pub first : slice_index_or xs 0 0 ≡ 0
  pub rises : (k : ℕ) → k + 1 < length xs → slice_index xs k < slice_index xs (k + 1)
  pub last : slice_index_or xs (length xs - 1) 0 ≡ size
  pub long : 2 ≤ length xs
  pub short : length xs ≤ 33

abbrev pub spans : List ℕ → ℕ
spans xs = length xs - 1

pub record Within (xs : List ℕ) (k i : ℕ) : Type 0 where
  pub one : k < spans xs
  pub from : slice_index_or xs k 0 ≤ i
  pub to : i < slice_index xs (k + 1)

abbrev pub covering : List ℕ → ℕ → ℕ
covering xs i = prefix_len (λ x. leb x i) (drop 1 xs)

abbrev pub Covered : Type 0
Covered =
    (size : ℕ) (xs : List ℕ) (i : ℕ) → Cuts size xs → i < size
    → Within xs (covering xs i) i × ((k : ℕ) → Within xs k i → k ≡ covering xs i)
