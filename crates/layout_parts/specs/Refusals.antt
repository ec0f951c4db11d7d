-- When the parts of a layout are refused. Assumes nothing.
--     topmost causes      the first cause of a list in which each rule has its own, if it applies
--     make_refusal ..     the cause for which a layout is refused: letter, boards, rows, columns, row splits,
--                         column splits, owners, in this order
-- The order that a letter names, `order_of`, is passed on from the crate of orders.
use Rattle.std.specs.Prelude.{ℕ, ◌*◌, cond, ◌&&◌, List, [], ◌∷◌, is_some, Some, None, Option, nat_le}
use Rattle.std.specs.Option.{option_map}
use Rattle.wrong_lists.specs.Lists.{first_wrong}
use Rattle.faults.specs.declared.cause.Cause.{Cause}
use Rattle.faults.specs.declared.cause.Cause.TheVariants.{Letter, Board, Size, Splits, Owners}
use Rattle.faults.specs.declared.cause.Side.{Side}
use Rattle.faults.specs.declared.cause.Side.TheVariants.{Rows, Columns}
pub use Rattle.splits.specs.Orders.{order_of}
use Rattle.splits.specs.Owners.{owner_rule}
use Rattle.splits.specs.Splits.{split_rule, spans}

abbrev pub topmost : List (Option Cause) → Option Cause
topmost [] = None
topmost (None ∷ rest) = topmost rest
topmost (Some cause ∷ rest) = Some cause

abbrev pub letter_cause : ℕ → Option Cause
letter_cause letter = cond (is_some (order_of letter)) None (Some (Letter letter))

abbrev pub boards_cause : ℕ → Option Cause
boards_cause n = cond (nat_le 1 n && nat_le n 16) None (Some (Board n))

abbrev pub size_cause : ℕ → Option Cause
size_cause size = cond (nat_le 1 size && nat_le size 1024) None (Some (Size size))

abbrev pub splits_cause : Side → ℕ → List ℕ → Option Cause
splits_cause side size xs = option_map (λ i. Splits side i) (first_wrong (split_rule size) xs)

abbrev pub owners_cause : ℕ → ℕ → List ℕ → Option Cause
owners_cause blocks n xs = option_map (λ i. Owners i) (first_wrong (owner_rule blocks n) xs)

-- everything above the owners
abbrev pub frame_refusal : ℕ → ℕ → ℕ → ℕ → List ℕ → List ℕ → Option Cause
frame_refusal letter n rows columns rs cs =
    topmost
    (letter_cause letter ∷ boards_cause n ∷ size_cause rows ∷ size_cause columns ∷ splits_cause Rows rows rs ∷ splits_cause Columns columns cs ∷ [])

abbrev pub make_refusal : ℕ → ℕ → ℕ → ℕ → List ℕ → List ℕ → List ℕ → Option Cause
make_refusal letter n rows columns rs cs os =
    topmost (frame_refusal letter n rows columns rs cs ∷ owners_cause (spans rs * spans cs) n os ∷ [])
