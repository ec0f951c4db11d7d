-- The runs of a sender: the pieces in which it sends its cells. Assumes nothing.
--     Run              a piece of one row of a cell: the cell, the row and the first column in the target, and the number of elements
--     most_words       the most words of elements that a frame carries
--     longest w        the most elements of a run, for elements of w words
--     span a n f       the lists f a, f (a + 1), .. one after the other, n of them
--     pieces width m   how many pieces of at most m elements a row of so many elements is cut into
--     piece o m k r p  piece p of row r of cell k, counted from the left; the last one is shorter where m does not divide the row
--     row_runs o m k r the runs of one row of a cell, from left to right
--     cell_runs o m k  the runs of a cell, its rows from top to bottom
--     runs_of o m i    the runs of sender i, its cells in rising order
use Rattle.std.specs.Prelude.{ℕ, zero, suc, ◌+◌, ◌-◌, ◌*◌, ◌/◌, min, cond, List, [], ◌∷◌, ◌++◌, ◌==◌}
use Rattle.overlays.specs.Overlays.{Overlay, cells, top, bottom, left, right, sender}

pub record Run : Type 0 where
  pub cell : ℕ
  pub row : ℕ
  pub column : ℕ
  pub count : ℕ

abbrev pub most_words : ℕ
most_words = 60

abbrev pub longest : ℕ → ℕ
longest w = most_words / w

abbrev pub span : ℕ → ℕ → (ℕ → List Run) → List Run
span a zero f = []
span a (suc n) f = f a ++ span (a + 1) n f

abbrev pub pieces : ℕ → ℕ → ℕ
pieces width m = (width + (m - 1)) / m

abbrev pub piece : Overlay → ℕ → ℕ → ℕ → ℕ → Run
piece o m k r p =
    record { cell = k; row = r; column = left o k + p * m; count = min m (right o k - (left o k + p * m)) }

abbrev pub row_runs : Overlay → ℕ → ℕ → ℕ → List Run
row_runs o m k r = span 0 (pieces (right o k - left o k) m) (λ p. piece o m k r p ∷ [])

abbrev pub cell_runs : Overlay → ℕ → ℕ → List Run
cell_runs o m k = span (top o k) (bottom o k - top o k) (λ r. row_runs o m k r)

abbrev pub runs_of : Overlay → ℕ → ℕ → List Run
runs_of o m i = span 0 (cells o) (λ k. cond (sender o k == i) (cell_runs o m k) [])
