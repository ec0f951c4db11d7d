-- The laws of tariffs hold of a table whose entries are within their limits; a proof, which the trait's ghost
-- member cites.
--     table_laws n xs      the laws, for n boards and the list xs
use Rattle.std.specs.Prelude.{◌≡◌, ℕ, ◌+◌, ◌*◌, ◌≤◌, List, None, ◌==◌, nat_lt, slice_index}
use Rattle.std.proofs.Common.{subst, arith}
use Rattle.std.proofs.lemmas.Nat.{mul-le}
use Rattle.std.proofs.lemmas.Bool.{cond_both, cond-false, cond-true, le-ltb, eq-eqb}
use Rattle.tariffs.specs.Asked.{asked}
use Rattle.tariffs.specs.Laws.{Laws, highest_price}
use Rattle.tariffs.specs.Questions.{ask_refusal, most_bytes}
use Rattle.price_lists.specs.Tables.{highest_latency, highest_rate, price_limit, cell, table_price}
use Rattle.tariffs.specs.declared.question.Question.{Question}

module _ (n : ℕ) (xs : List ℕ) (bounds : (k : ℕ) → slice_index xs k ≤ price_limit n k) where
  pub latency_bound : (k : ℕ) → slice_index xs k ≤ highest_latency
  latency_bound k =
      let e : price_limit n k ≤ highest_latency = cond_both (nat_lt k (n * n)) highest_latency highest_rate (λ v. v ≤ highest_latency) (λ _. omega arith) (λ _. omega arith) in
      omega (arith, bounds k)

  pub rate_bound : (k : ℕ) → slice_index xs (n * n + k) ≤ highest_rate
  rate_bound k =
      subst (λ v. slice_index xs (n * n + k) ≤ v) (cond-false (nat_lt (n * n + k) (n * n)) highest_latency highest_rate (le-ltb (n * n + k) (n * n) (omega arith))) (bounds (n * n + k))

  -- no entry and no number of bytes makes a price that is too high
  table_capped : (q : Question) → ask_refusal n q ≡ None → table_price n xs q ≤ highest_price
  table_capped q a =
      let b = mul-le (slice_index xs (n * n + cell n q)) q.bytes highest_rate most_bytes (rate_bound (cell n q)) (asked n q a).2 in
      cond_both (q.bytes == 0) 0 (slice_index xs (cell n q) + slice_index xs (n * n + cell n q) * q.bytes) (λ p. p ≤ highest_price)
      (λ _. omega arith)
      (λ _. omega (arith, latency_bound (cell n q)))

  pub table_laws : 1 ≤ n → n ≤ 16 → Laws n (table_price n xs)
  table_laws l m =
      record {
        least = l;
        most = m;
        capped = table_capped;
        free = λ q a z. cond-true (q.bytes == 0) 0 (slice_index xs (cell n q) + slice_index xs (n * n + cell n q) * q.bytes) (eq-eqb q.bytes 0 z);
      }
