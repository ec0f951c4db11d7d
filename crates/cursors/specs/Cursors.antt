-- The runs that are left from a cursor on. Assumes nothing.
--     bounded longest       the most elements of a run: what is asked for, but 1 at least and 60 at most
--     chosen o m i k        the runs of cell k if board i sends it, and else none
--     later o m i k         the runs of sender i in the cells from k on
--     row_rest o m k r p    the runs of row r of cell k from piece p on
--     cell_rest o m k a p   the runs of cell k from piece p of its row a on, rows counted from its top; none if it has no such piece
--     runs_from o m i k a p the runs of sender i from the cursor (k, a, p) on
--     admits w j            whether runs of role j are wanted
use Rattle.std.specs.Prelude.{ℕ, ◌+◌, ◌-◌, min, max, Bool, cond, not, ◌&&◌, List, [], ◌∷◌, ◌++◌, ◌==◌, nat_lt}
use Rattle.cursors.specs.declared.cursor.Wanted.{Wanted}
use Rattle.cursors.specs.declared.cursor.Wanted.TheVariants.{Role, Others}
use Rattle.overlays.specs.Overlays.{Overlay, cells, top, bottom, left, right, sender}
use Rattle.runs.specs.Runs.{Run, span, pieces, piece, row_runs, cell_runs}

abbrev pub bounded : ℕ → ℕ
bounded longest = min (max longest 1) 60

abbrev pub chosen : Overlay → ℕ → ℕ → ℕ → List Run
chosen o m i k = cond (sender o k == i) (cell_runs o m k) []

abbrev pub later : Overlay → ℕ → ℕ → ℕ → List Run
later o m i k = span k (cells o - k) (chosen o m i)

abbrev pub row_rest : Overlay → ℕ → ℕ → ℕ → ℕ → List Run
row_rest o m k r p = span p (pieces (right o k - left o k) m - p) (λ q. piece o m k r q ∷ [])

abbrev pub cell_rest : Overlay → ℕ → ℕ → ℕ → ℕ → List Run
cell_rest o m k a p =
    cond (nat_lt a (bottom o k - top o k) && nat_lt p (pieces (right o k - left o k) m))
    (row_rest o m k (top o k + a) p ++ span (top o k + a + 1) (bottom o k - top o k - (a + 1)) (λ r. row_runs o m k r))
    []

unfoldable pub runs_from : Overlay → ℕ → ℕ → ℕ → ℕ → ℕ → List Run
runs_from o m i k a p = cond (nat_lt k (cells o)) (cond (sender o k == i) (cell_rest o m k a p) [] ++ later o m i (k + 1)) []

abbrev pub admits : Wanted → ℕ → Bool
admits (Role j) r = r == j
admits (Others j) r = not (r == j)
