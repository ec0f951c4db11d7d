-- The laws of tariffs hold of a surcharge over any tariff that they hold of; a proof, which the trait's ghost member
-- cites.
--     surcharge_laws     the laws, from those of the tariff below
use Rattle.std.specs.Prelude.{◌≡◌, ℕ, ◌+◌, ◌*◌, ◌≤◌, min, List, None, slice_index}
use Rattle.std.proofs.Common.{ap, ◌∙◌, mul-zero, arith}
use Rattle.std.proofs.Math.Nat.{min-le_left}
use Rattle.std.proofs.lemmas.Bool.{cond_both}
use Rattle.tariffs.specs.Laws.{Laws, highest_price}
use Rattle.tariffs.specs.Questions.{ask_refusal}
use Rattle.surcharges.specs.Surcharges.{surcharge, surcharge_price}
use Rattle.tariffs.specs.declared.question.Question.{Question}

module _ (n : ℕ) (cs : List ℕ) (price : Question → ℕ) (l : Laws n price) where
  surcharge_capped : (q : Question) → ask_refusal n q ≡ None → surcharge_price cs price q ≤ highest_price
  surcharge_capped q a =
      cond_both q.transformed (min highest_price (price q + surcharge cs q)) (price q) (λ p. p ≤ highest_price)
      (λ _. min-le_left highest_price (price q + surcharge cs q))
      (λ _. l.capped q a)

  surcharge_free : (q : Question) → ask_refusal n q ≡ None → q.bytes ≡ 0 → surcharge_price cs price q ≡ 0
  surcharge_free q a z =
      let none : surcharge cs q ≡ 0 = ap (λ b. slice_index cs q.receiver * b) z ∙ mul-zero (slice_index cs q.receiver) in
      let sum : price q + surcharge cs q ≡ 0 = omega (arith, none, l.free q a z) in
      cond_both q.transformed (min highest_price (price q + surcharge cs q)) (price q) (λ p. p ≡ 0)
      (λ _. ap (min highest_price) sum)
      (λ _. l.free q a z)

  pub surcharge_laws : Laws n (surcharge_price cs price)
  surcharge_laws = record { least = l.least; most = l.most; capped = surcharge_capped; free = surcharge_free }
