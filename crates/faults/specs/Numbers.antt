-- The number of each cause. Assumes nothing.
--     number_of c     the number by which the table of causes knows c
use Rattle.std.specs.Prelude.{ℕ}
use Rattle.faults.specs.declared.cause.Cause.{Cause}
use Rattle.faults.specs.declared.cause.Cause.TheVariants.{Letter, Board, Size, Splits, Owners, Share, State, Count, Plan, Pass, Length, Nothing, Closed, Frame, Early, Field, Beyond}

abbrev pub number_of : Cause → ℕ
number_of (Letter code) = 1
number_of (Board number) = 2
number_of (Size number) = 3
number_of (Splits side index) = 4
number_of (Owners index) = 5
number_of (Share bank owner) = 6
number_of (State state) = 7
number_of (Count number) = 8
number_of (Plan role) = 9
number_of Pass = 10
number_of (Length due) = 11
number_of (Nothing board) = 12
number_of (Closed board) = 13
number_of (Frame word) = 14
number_of (Early missing) = 15
number_of (Field line column) = 16
number_of (Beyond index) = 17
