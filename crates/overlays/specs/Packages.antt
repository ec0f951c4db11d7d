-- Packages: what one board sends for one role. Assumes nothing.
--     sum_below n f                       f 0 + f 1 + .. + f (n - 1)
--     counts op a b i j r c               1 if the target's element of row r and column c has role j in grid a and comes
--                                         from an element of board i in grid b, and else 0
--     elements op a b rows columns i j    the number of such elements, which is the package of board i for role j
--     bytes elements words                its bytes, for elements of so many words of 4 bytes
use Rattle.std.specs.Prelude.{ℕ, zero, suc, ◌+◌, ◌*◌, cond, ◌&&◌, ◌==◌}
use Rattle.overlays.specs.declared.operation.Operation.{Operation}
use Rattle.overlays.specs.Turns.{source_cover}
use Rattle.splits.specs.Blocks.{Grid, cover, owner}

abbrev pub sum_below : ℕ → (ℕ → ℕ) → ℕ
sum_below zero f = 0
sum_below (suc n) f = sum_below n f + f n

abbrev pub counts : Operation → Grid → Grid → ℕ → ℕ → ℕ → ℕ → ℕ
counts op a b i j r c = cond (owner b (source_cover op b r c) == i && owner a (cover a r c) == j) 1 0

abbrev pub elements : Operation → Grid → Grid → ℕ → ℕ → ℕ → ℕ → ℕ
elements op a b rows columns i j = sum_below rows (λ r. sum_below columns (λ c. counts op a b i j r c))

abbrev pub bytes : ℕ → ℕ → ℕ
bytes elements words = elements * words * 4
