-- The surcharge on transformed packages, by receiver, over another tariff. Assumes nothing.
--     highest_charge                 the limit of a charge
--     charge_rule n                  the rule of the legal lists of charges, one for each of n boards
--     charge_table n xs              the table of the list xs: its charges, and 0 from n on
--     surcharge cs q                 the receiver's charge for each byte
--     surcharge_price cs price q     the price of q: a transformed package costs the surcharge beyond the price below,
--                                    and no more than the highest price
use Rattle.std.specs.Prelude.{ℕ, ◌+◌, ◌-◌, ◌*◌, min, cond, List, ◌++◌, replicate, slice_index}
use Rattle.faults.specs.Lists.{Rule}
use Rattle.tariffs.specs.Laws.{highest_price}
use Rattle.bounded_lists.specs.Lists.{bounded}
use Rattle.tariffs.specs.Questions.{most_boards}
use Rattle.tariffs.specs.declared.question.Question.{Question}

abbrev pub highest_charge : ℕ
highest_charge = 1000

abbrev pub charge_rule : ℕ → Rule
charge_rule n = bounded n (λ _. highest_charge)

abbrev pub charge_table : ℕ → List ℕ → List ℕ
charge_table n xs = xs ++ replicate (most_boards - n) 0

abbrev pub surcharge : List ℕ → Question → ℕ
surcharge cs q = slice_index cs q.receiver * q.bytes

abbrev pub surcharge_price : List ℕ → (Question → ℕ) → Question → ℕ
surcharge_price cs price q = cond q.transformed (min highest_price (price q + surcharge cs q)) (price q)
