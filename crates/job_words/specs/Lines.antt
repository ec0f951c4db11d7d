-- The lines of a text. Assumes nothing.
--     Line t front rest     front is the text t up to its first line feed, and rest is what follows that;
--                           without a line feed front is all of t, and nothing follows
use Rattle.std.specs.Prelude.{◌≡◌, ℕ, ◌+◌, ◌<◌, List, length, take, drop, ◌≢◌, slice_index}

pub record Line (t front rest : List ℕ) : Type 0 where
  pub before : (k : ℕ) → k < length front → slice_index t k ≢ 10
  pub ends : length front < length t → slice_index t (length front) ≡ 10
  pub begins : front ≡ take (length front) t
  pub follows : rest ≡ drop (length front + 1) t
