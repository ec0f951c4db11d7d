-- The laws of runs, of every overlay. Assumes nothing.
--     has x r c        whether run x has the target's element of row r and column c
--     hits r c xs      how many runs of xs have it
--     sender_at o r c  the board that the element comes from
--     Once             each element of the target is in exactly one run of the board that it comes from, and in none of
--                      another's: so no two runs overlap, and all together have every element
--     Inside o m i x   x is in a cell of sender i and has 1 to m elements, all in one row of that cell
--     InCells          each run of a sender is so inside; its cell lies in one block of the target and in one of the source
--     CutRows          a row of 61 elements is cut into 60 and 1 as words, and into 30, 30 and 1 as pairs
use Rattle.std.specs.Prelude.{◌≡◌, ℕ, ◌+◌, ◌<◌, ◌≤◌, Bool, cond, ◌&&◌, List, [], ◌∷◌, map, ◌==◌, nat_le, nat_lt}
use Rattle.std.specs.List.{AllByRecursion}
use Rattle.overlays.specs.Laws.{Lies}
use Rattle.overlays.specs.Overlays.{Overlay, Holds, Joined, sender, left, right}
use Rattle.overlays.specs.Turns.{source_cover}
use Rattle.runs.specs.Runs.{Run, longest, row_runs, runs_of}
use Rattle.splits.specs.Blocks.{owner}

abbrev pub has : Run → ℕ → ℕ → Bool
has x r c = x.row == r && (nat_le x.column c && nat_lt c (x.column + x.count))

abbrev pub hits : ℕ → ℕ → List Run → ℕ
hits r c [] = 0
hits r c (x ∷ xs) = cond (has x r c) 1 0 + hits r c xs

abbrev pub sender_at : Overlay → ℕ → ℕ → ℕ
sender_at o r c = owner o.source (source_cover o.operation o.source r c)

abbrev pub Once : Type 0
Once =
    (n rows columns : ℕ) (o : Overlay) → Joined n rows columns o → (m : ℕ) → 1 ≤ m → (i r c : ℕ) → r < rows → c < columns
    → hits r c (runs_of o m i) ≡ cond (sender_at o r c == i) 1 0

pub record Inside (o : Overlay) (m i : ℕ) (x : Run) : Type 0 where
  pub sent : sender o x.cell ≡ i
  pub some : 1 ≤ x.count
  pub most : x.count ≤ m
  pub held : (t : ℕ) → t < x.count → Holds o x.cell x.row (x.column + t)
  pub lies : (t : ℕ) → t < x.count → Lies o x.cell x.row (x.column + t)

abbrev pub InCells : Type 0
InCells =
    (n rows columns : ℕ) (o : Overlay) → Joined n rows columns o → (m : ℕ) → 1 ≤ m → (i : ℕ) → AllByRecursion (Inside o m i) (runs_of o m i)

abbrev pub CutRows : Type 0
CutRows =
    (o : Overlay) (k r : ℕ) → left o k ≡ 0 → right o k ≡ 61
    → (map (λ x. x.count) (row_runs o (longest 1) k r) ≡ 60 ∷ 1 ∷ [])
    × (map (λ x. x.count) (row_runs o (longest 2) k r) ≡ 30 ∷ 30 ∷ 1 ∷ [])
