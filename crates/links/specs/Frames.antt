-- Frames, and the lists of frames that wait for boards, oldest first. Assumes nothing.
--     most_boards             the most boards that a link serves
--     most_words              the most words that a frame has
--     most_entry              the same behind two more, its receiver and its length
--     Frame f                 f has 1 to 64 words
--     Frames fs               each of fs is a frame
--     none_waits fs           whether fs is empty
--     oldest fs, younger fs   the first frame of a list and those after it; both are empty where nothing waits
--     appended w b f          the lists w with f as the youngest frame of board b
--     removed w b             the lists w without the oldest frame of board b
--     Quiet n w               nothing waits for any of n boards
use Rattle.std.specs.Prelude.{◌≡◌, ℕ, ◌<◌, ◌≤◌, Bool, true, false, cond, List, [], ◌∷◌, ◌++◌, length, ◌==◌}

abbrev pub most_boards : ℕ
most_boards = 16

abbrev pub most_words : ℕ
most_words = 64

abbrev pub most_entry : ℕ
most_entry = 66

abbrev pub Frame : List ℕ → Type 0
Frame f = (1 ≤ length f) × (length f ≤ most_words)

abbrev pub Frames : List (List ℕ) → Type 0
Frames [] = Unit {0}
Frames (f ∷ fs) = Frame f × Frames fs

abbrev pub none_waits : List (List ℕ) → Bool
none_waits [] = true
none_waits (f ∷ fs) = false

abbrev pub oldest : List (List ℕ) → List ℕ
oldest [] = []
oldest (f ∷ fs) = f

abbrev pub younger : List (List ℕ) → List (List ℕ)
younger [] = []
younger (f ∷ fs) = fs

abbrev pub appended : (ℕ → List (List ℕ)) → ℕ → List ℕ → ℕ → List (List ℕ)
appended w b f k = cond (k == b) (w k ++ f ∷ []) (w k)

abbrev pub removed : (ℕ → List (List ℕ)) → ℕ → ℕ → List (List ℕ)
removed w b k = cond (k == b) (younger (w k)) (w k)

abbrev pub Quiet : ℕ → (ℕ → List (List ℕ)) → Type 0
Quiet n w = (k : ℕ) → k < n → w k ≡ []
