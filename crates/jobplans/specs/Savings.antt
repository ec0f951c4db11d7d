-- What a naming saves. Assumes nothing.
--     tenths own least     the part of the cost `own` that `least` saves, in tenths of a per cent, rounded down; 0 where own
--                          is 0
use Rattle.std.specs.Prelude.{ℕ, ◌-◌, ◌*◌, ◌/◌, cond, ◌==◌}

abbrev pub tenths : ℕ → ℕ → ℕ
tenths own least = cond (own == 0) 0 ((own - least) * 1000 / own)
