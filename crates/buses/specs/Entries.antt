-- The entries of a bus's list: each frame behind its receiver and its length. Assumes nothing.
--     laid es             the entries one behind another, as words
--     read most xs        the first entries that the words xs hold, at most so many
--     entries xs          the entries that the words xs hold; of laid words these are the entries that were laid
--     addressed k es      the frames of the entries for board k, in their order
--     lawful n es         each receiver is one of n boards, and each frame has 1 to 64 words
--     Whole n xs          the words xs are nothing but lawful entries for n boards
--     Found b xs at       the first entry of xs for board b begins at index `at`: what stands before it, its frame, what follows,
--                         and its extent
use Rattle.std.specs.Prelude.{◌≡◌, ℕ, zero, suc, ◌+◌, ◌≤◌, Bool, true, cond, ◌&&◌, List, [], ◌∷◌, ◌++◌, length, take, drop, ◌==◌, nat_le, nat_lt, slice_index_or}
use Rattle.links.specs.Frames.{most_words}

pub record Entry : Type 0 where
  pub receiver : ℕ
  pub frame : List ℕ

abbrev pub laid : List Entry → List ℕ
laid [] = []
laid (e ∷ es) = e.receiver ∷ length e.frame ∷ (e.frame ++ laid es)

-- at most `most` entries, read from the front
abbrev pub read : ℕ → List ℕ → List Entry
read zero xs = []
read (suc most) [] = []
read (suc most) (x ∷ []) = []
read (suc most) (x ∷ len ∷ xs) = record { receiver = x; frame = take len xs } ∷ read most (drop len xs)

-- an entry has more than one word, so there are at most as many entries as words
abbrev pub entries : List ℕ → List Entry
entries xs = read (length xs) xs

abbrev pub addressed : ℕ → List Entry → List (List ℕ)
addressed k [] = []
addressed k (e ∷ es) = cond (k == e.receiver) (e.frame ∷ addressed k es) (addressed k es)

abbrev pub lawful : ℕ → List Entry → Bool
lawful n [] = true
lawful n (e ∷ es) = (nat_lt e.receiver n && (nat_le 1 (length e.frame) && nat_le (length e.frame) most_words)) && lawful n es

pub record Whole (n : ℕ) (xs : List ℕ) : Type 0 where
  pub kept : laid (entries xs) ≡ xs
  pub legal : lawful n (entries xs) ≡ true

pub record Found (b : ℕ) (xs : List ℕ) (at : ℕ) : Type 0 where
  pub before : List Entry
  pub frame : List ℕ
  pub after : List Entry
  pub split : entries xs ≡ before ++ record { receiver = b; frame = frame } ∷ after
  pub place : length (laid before) ≡ at
  pub first : addressed b before ≡ []
  pub size : slice_index_or xs (at + 1) 0 ≡ length frame
  pub short : length frame ≤ most_words
  pub inside : at + 2 + length frame ≤ length xs
