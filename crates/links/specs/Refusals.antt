-- Why a call of a link is refused, if it is: the first line that applies gives the cause. Assumes nothing.
--     board_refusal n board              a call for a board, of n
--     frame_refusal len                  a put of len words
--     buffer_refusal room                a look into a buffer of room words
--     put_refusal n open board len       a put of len words to a board, of n, that is open or not
--     look_refusal n board room waiting  a look at what waits for a board, into a buffer of room words
--     drop_refusal n board waiting       a drop of the oldest frame that waits for a board
--     bus_refusal n len, crossbar_refusal n     the making of a link for n boards, of a bus over a list of len words
use Rattle.std.specs.Prelude.{ℕ, Bool, cond, not, ◌&&◌, List, Some, None, Option, nat_le, nat_lt}
use Rattle.faults.specs.declared.cause.Cause.{Cause}
use Rattle.faults.specs.declared.cause.Cause.TheVariants.{Board, Length, Nothing, Closed}
use Rattle.links.specs.Frames.{most_boards, most_words, most_entry, none_waits}

abbrev pub board_refusal : ℕ → ℕ → Option Cause
board_refusal n board = cond (not (nat_lt board n)) (Some (Board board)) None

abbrev pub frame_refusal : ℕ → Option Cause
frame_refusal len = cond (not (nat_le 1 len && nat_le len most_words)) (Some (Length most_words)) None

abbrev pub buffer_refusal : ℕ → Option Cause
buffer_refusal room = cond (nat_lt room most_words) (Some (Length most_words)) None

abbrev pub put_refusal : ℕ → Bool → ℕ → ℕ → Option Cause
put_refusal n is_open board len =
    cond (not (nat_lt board n)) (Some (Board board))
    (cond (not (nat_le 1 len && nat_le len most_words)) (Some (Length most_words))
    (cond (not is_open) (Some (Closed board))
    None))

abbrev pub look_refusal : ℕ → ℕ → ℕ → List (List ℕ) → Option Cause
look_refusal n board room waiting =
    cond (not (nat_lt board n)) (Some (Board board))
    (cond (nat_lt room most_words) (Some (Length most_words))
    (cond (none_waits waiting) (Some (Nothing board))
    None))

abbrev pub drop_refusal : ℕ → ℕ → List (List ℕ) → Option Cause
drop_refusal n board waiting =
    cond (not (nat_lt board n)) (Some (Board board))
    (cond (none_waits waiting) (Some (Nothing board))
    None)

abbrev pub crossbar_refusal : ℕ → Option Cause
crossbar_refusal n = cond (not (nat_le 1 n && nat_le n most_boards)) (Some (Board n)) None

abbrev pub bus_refusal : ℕ → ℕ → Option Cause
bus_refusal n len =
    cond (not (nat_le 1 n && nat_le n most_boards)) (Some (Board n))
    (cond (nat_lt len most_entry) (Some (Length most_entry))
    None)
