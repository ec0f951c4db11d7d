-- Which sides the operation exchanges. Assumes nothing.
--     turned op x y              x under the identity, y under both transposes
--     source_cover op g r c      the block of the source that the target's element of row r and column c comes from:
--                                the one that covers (r, c) under the identity and (c, r) under the transposes
--     SourceCovers op g b r c    block b of the source covers that element
use Rattle.std.specs.Prelude.{ℕ}
use Rattle.overlays.specs.declared.operation.Operation.{Operation}
use Rattle.overlays.specs.declared.operation.Operation.TheVariants.{Identity, Transpose, ConjugateTranspose}
use Rattle.splits.specs.Blocks.{Grid, Covers, cover}

abbrev pub turned : {A : Type 0} → Operation → A → A → A
turned Identity x y = x
turned Transpose x y = y
turned ConjugateTranspose x y = y

abbrev pub source_cover : Operation → Grid → ℕ → ℕ → ℕ
source_cover op g r c = cover g (turned op r c) (turned op c r)

abbrev pub SourceCovers : Operation → Grid → ℕ → ℕ → ℕ → Type 0
SourceCovers op g b r c = Covers g b (turned op r c) (turned op c r)
