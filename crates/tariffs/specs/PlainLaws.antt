-- The laws of tariffs hold of the plain tariff; a proof, which the trait's ghost member cites.
--     plain_laws n      the laws, for n boards
use Rattle.std.specs.Prelude.{◌≡◌, ℕ, ◌≤◌, ◌==◌, refl}
use Rattle.std.proofs.Common.{arith}
use Rattle.std.proofs.lemmas.Bool.{cond_both}
use Rattle.tariffs.specs.Asked.{asked}
use Rattle.tariffs.specs.Laws.{Laws, highest_price}
use Rattle.tariffs.specs.Plains.{plain_price}

pub plain_laws : (n : ℕ) → 1 ≤ n → n ≤ 16 → Laws n plain_price
plain_laws n l m =
    record {
      least = l;
      most = m;
      capped = λ q a. let b = (asked n q a).2 in cond_both (q.sender == q.receiver) 0 q.bytes (λ p. p ≤ highest_price) (λ _. omega arith) (λ _. omega arith);
      free = λ q a z. cond_both (q.sender == q.receiver) 0 q.bytes (λ p. p ≡ 0) (λ _. refl) (λ _. z);
    }
