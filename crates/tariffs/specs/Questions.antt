-- Which questions a tariff answers. Assumes nothing.
--     most_boards          the highest count of boards
--     most_bytes           the highest number of bytes of one package
--     boards_refusal n     why nothing is made for n boards, if there is a cause
--     ask_refusal n q      why a tariff for n boards refuses the question q, if there is a cause
use Rattle.std.specs.Prelude.{ℕ, cond, ◌&&◌, Some, None, Option, nat_le, nat_lt}
use Rattle.faults.specs.declared.cause.Cause.{Cause}
use Rattle.faults.specs.declared.cause.Cause.TheVariants.{Board, Beyond}
use Rattle.tariffs.specs.declared.question.Question.{Question}

abbrev pub most_boards : ℕ
most_boards = 16

abbrev pub most_bytes : ℕ
most_bytes = 16777216

abbrev pub boards_refusal : ℕ → Option Cause
boards_refusal n = cond (nat_le 1 n && nat_le n most_boards) None (Some (Board n))

abbrev pub ask_refusal : ℕ → Question → Option Cause
ask_refusal n q =
    cond (nat_lt q.sender n)
    (cond (nat_lt q.receiver n) (cond (nat_le q.bytes most_bytes) None (Some (Beyond 0))) (Some (Board q.receiver)))
    (Some (Board q.sender))
