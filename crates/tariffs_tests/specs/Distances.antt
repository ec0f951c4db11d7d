-- A tariff by distance: each byte costs 4,360 for each board on its way, which comes near the highest price.
--     distance q           the number of boards on the way
--     distance_price q     the price of q
--     distance_laws n      the laws of tariffs, for n boards; a proof, which the trait's ghost member cites
use Rattle.std.specs.Prelude.{◌≡◌, ℕ, ◌+◌, ◌-◌, ◌*◌, ◌≤◌, None}
use Rattle.std.proofs.Common.{ap, ◌∙◌, mul-zero, arith}
use Rattle.std.proofs.lemmas.Nat.{mul-le}
use Rattle.tariffs.specs.Asked.{asked}
use Rattle.tariffs.specs.Laws.{Laws, highest_price}
use Rattle.tariffs.specs.Questions.{ask_refusal, most_bytes}
use Rattle.tariffs.specs.declared.question.Question.{Question}

abbrev pub distance : Question → ℕ
distance q = (q.sender - q.receiver) + (q.receiver - q.sender)

abbrev pub distance_price : Question → ℕ
distance_price q = 4360 * distance q * q.bytes

distance_capped : (n : ℕ) → n ≤ 16 → (q : Question) → ask_refusal n q ≡ None → distance_price q ≤ highest_price
distance_capped n m q a =
    let within = asked n q a in
    omega (arith, mul-le (4360 * distance q) q.bytes 65400 most_bytes (omega (arith, within.0, within.1)) within.2)

pub distance_laws : (n : ℕ) → 1 ≤ n → n ≤ 16 → Laws n distance_price
distance_laws n l m =
    record {
      least = l;
      most = m;
      capped = distance_capped n m;
      free = λ q a z. ap (λ b. 4360 * distance q * b) z ∙ mul-zero (4360 * distance q);
    }
