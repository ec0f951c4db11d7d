-- What every tariff shows of its meaning: a count of boards n and the price of each question. Assumes nothing.
--     highest_price     the price that none exceeds
--     Laws n price      n is from 1 to most_boards; of the questions that are answered, none costs more
--                       than highest_price, and those of 0 bytes cost nothing
use Rattle.std.specs.Prelude.{◌≡◌, ℕ, ◌≤◌, None}
use Rattle.tariffs.specs.Questions.{most_boards, ask_refusal}
use Rattle.tariffs.specs.declared.question.Question.{Question}

abbrev pub highest_price : ℕ
highest_price = 1099511627776

pub record Laws (n : ℕ) (price : Question → ℕ) : Type 0 where
  pub least : 1 ≤ n
  pub most : n ≤ most_boards
  pub capped : (q : Question) → ask_refusal n q ≡ None → price q ≤ highest_price
  pub free : (q : Question) → ask_refusal n q ≡ None → q.bytes ≡ 0 → price q ≡ 0
