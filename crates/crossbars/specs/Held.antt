-- What one inbox holds. Assumes nothing.
--     held words used     the frames of an inbox whose first `used` words are taken: none, or the one frame
use Rattle.std.specs.Prelude.{ℕ, zero, suc, List, [], ◌∷◌, take}

abbrev pub held : List ℕ → ℕ → List (List ℕ)
held words zero = []
held words (suc used) = take (suc used) words ∷ []
