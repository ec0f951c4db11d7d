-- The laws of blocks and places, of every sound grid. Assumes nothing.
--     CoveredOnce    each element of the matrix is covered by exactly one block
--     Naming n σ      σ gives each of n roles a board of its own among n
--     Shared n g share    no owner's blocks exceed the share
--     Placed          an element lies in the part of the board that its owner is named, and so in the bank
--     InParts        where no owner's blocks exceed the share, each element is so placed
--     Apart           where no owner's blocks exceed the share, no two elements have the same place
--     Filled          no element lies beyond what its owner's blocks take in all
--     Stepped         inside a block, elements along a row and down a column lie at equal steps
--     Whole           a block takes as many places as it has elements, all blocks together rows × columns, and so
--                     no owner's take more
use Rattle.std.specs.Prelude.{◌≡◌, ℕ, ◌+◌, ◌*◌, ◌<◌, ◌≤◌}
use Rattle.splits.specs.Blocks.{Grid, Sound, Covers, blocks, height, width, owner, cover}
use Rattle.splits.specs.Places.{offset, total, place, room, taken, row_step, column_step}

abbrev pub CoveredOnce : Type 0
CoveredOnce =
    (n rows columns : ℕ) (g : Grid) → Sound n rows columns g → (r c : ℕ) → r < rows → c < columns
    → Covers g (cover g r c) r c × ((b : ℕ) → Covers g b r c → b ≡ cover g r c)

pub record Naming (n : ℕ) (σ : ℕ → ℕ) : Type 0 where
  pub below : (j : ℕ) → j < n → σ j < n
  pub apart : (i j : ℕ) → i < n → j < n → σ i ≡ σ j → i ≡ j

abbrev pub Shared : ℕ → Grid → ℕ → Type 0
Shared n g share = (p : ℕ) → p < n → total g p ≤ share

pub record Placed (n : ℕ) (g : Grid) (share : ℕ) (σ : ℕ → ℕ) (r c : ℕ) : Type 0 where
  pub owned : owner g (cover g r c) < n
  pub from : σ (owner g (cover g r c)) * share ≤ place g share σ r c
  pub to : place g share σ r c < (σ (owner g (cover g r c)) + 1) * share
  pub bank : place g share σ r c < n * share

abbrev pub InParts : Type 0
InParts =
    (n rows columns : ℕ) (g : Grid) → Sound n rows columns g → (share : ℕ) → Shared n g share → (σ : ℕ → ℕ) → Naming n σ
    → (r c : ℕ) → r < rows → c < columns → Placed n g share σ r c

abbrev pub Apart : Type 0
Apart =
    (n rows columns : ℕ) (g : Grid) → Sound n rows columns g → (share : ℕ) → Shared n g share → (σ : ℕ → ℕ) → Naming n σ
    → (r c q d : ℕ) → r < rows → c < columns → q < rows → d < columns
    → place g share σ r c ≡ place g share σ q d → (r ≡ q) × (c ≡ d)

abbrev pub Filled : Type 0
Filled =
    (n rows columns : ℕ) (g : Grid) → Sound n rows columns g → (r c : ℕ) → r < rows → c < columns
    → offset g r c < total g (owner g (cover g r c))

abbrev pub Stepped : Type 0
Stepped =
    (n rows columns : ℕ) (g : Grid) → Sound n rows columns g → (b r c k : ℕ) → Covers g b r c
    → (Covers g b r (c + k) → offset g r (c + k) ≡ offset g r c + k * row_step g b)
    × (Covers g b (r + k) c → offset g (r + k) c ≡ offset g r c + k * column_step g b)

abbrev pub Whole : Type 0
Whole =
    (n rows columns : ℕ) (g : Grid) → Sound n rows columns g
    → (taken g (blocks g) ≡ rows * columns) × ((b : ℕ) → room g b ≡ height g b * width g b) × ((p : ℕ) → total g p ≤ rows * columns)
