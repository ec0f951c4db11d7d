-- The grid that tables hold in their used parts. Assumes nothing.
--     Faultless may xs               xs is legal: the rule has no first wrong index in it
--     table_grid rb cb rs cs os o    rb by cb blocks: rb + 1 row splits in rs, cb + 1 column splits in cs,
--                                    rb × cb owners in os
use Rattle.std.specs.Prelude.{◌≡◌, ℕ, ◌+◌, ◌*◌, false, List, take, is_some}
use Rattle.wrong_lists.specs.Lists.{Rule, first_wrong}
use Rattle.splits.specs.declared.order.Order.{Order}
use Rattle.splits.specs.Blocks.{Grid, grid}

abbrev pub table_grid : ℕ → ℕ → List ℕ → List ℕ → List ℕ → Order → Grid
table_grid rb cb rs cs os o = grid (take (rb + 1) rs) (take (cb + 1) cs) (take (rb * cb) os) o

abbrev pub Faultless : Rule → List ℕ → Type 0
Faultless may xs = is_some (first_wrong may xs) ≡ false
