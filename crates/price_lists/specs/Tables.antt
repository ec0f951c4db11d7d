-- The tariff of a price list for n boards: n × n latencies, then n × n prices per byte, both row by row by sender.
-- Assumes nothing.
--     highest_latency, highest_rate     the limits of the two halves
--     price_limit n k                   the highest value at index k of a list
--     price_rule n                      the rule of the legal price lists
--     table_refusal n xs                why the list xs makes no tariff for n boards, if there is a cause
--     cell n q                          the place of the question's sender and receiver in either half
--     table_price n xs q                the price of q: latency and bytes, where there are bytes at all
--     SamplePrice                      12 bytes at a latency of 100 and 3 for each byte cost 136
use Rattle.std.specs.Prelude.{◌≡◌, ℕ, ◌+◌, ◌*◌, cond, List, Option, ◌==◌, slice_index}
use Rattle.std.specs.Option.{option_or}
use Rattle.faults.specs.Lists.{Rule}
use Rattle.faults.specs.declared.cause.Cause.{Cause}
use Rattle.bounded_lists.specs.Lists.{bounded, limits, list_refusal}
use Rattle.tariffs.specs.Questions.{boards_refusal}
use Rattle.tariffs.specs.declared.question.Question.{Question}

abbrev pub highest_latency : ℕ
highest_latency = 1000000000

abbrev pub highest_rate : ℕ
highest_rate = 10000

abbrev pub price_limit : ℕ → ℕ → ℕ
price_limit n k = limits (n * n) highest_latency highest_rate k

abbrev pub price_rule : ℕ → Rule
price_rule n = bounded (2 * (n * n)) (price_limit n)

abbrev pub table_refusal : ℕ → List ℕ → Option Cause
table_refusal n xs = option_or (boards_refusal n) (list_refusal (price_rule n) xs)

abbrev pub cell : ℕ → Question → ℕ
cell n q = q.sender * n + q.receiver

abbrev pub table_price : ℕ → List ℕ → Question → ℕ
table_price n xs q = cond (q.bytes == 0) 0 (slice_index xs (cell n q) + slice_index xs (n * n + cell n q) * q.bytes)

abbrev pub SamplePrice : Type 0
SamplePrice =
    (n : ℕ) (xs : List ℕ) (q : Question)
    → slice_index xs (cell n q) ≡ 100
    → slice_index xs (n * n + cell n q) ≡ 3
    → q.bytes ≡ 12
    → table_price n xs q ≡ 136
