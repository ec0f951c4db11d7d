-- The plain tariff: bytes cost what they number, and nothing between a board and itself. Assumes nothing.
--     plain_price q     the price of q
use Rattle.std.specs.Prelude.{ℕ, cond, ◌==◌}
use Rattle.tariffs.specs.declared.question.Question.{Question}

abbrev pub plain_price : Question → ℕ
plain_price q = cond (q.sender == q.receiver) 0 q.bytes
