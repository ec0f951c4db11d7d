use Rattle.std.proofs.Common.{ℕ, ◌<◌, ◌≤◌, slice_index, inl, inr, arith, rules}
use Rattle.std.proofs.lemmas.Bool.{cases_lt}
use Rattle.std.proofs.lemmas.List.{get_or_past}
use Rattle.tariffs.specs.Questions.{most_bytes}
use Rattle.settling.proofs.Made.{made_each}
use Rattle.settling.proofs.Sizes.{Asked, asked_bytes, asked_most}
use Rattle.settling.proofs.pricing.Pricing.packages.Goals as goal

pub invariant_of-result-clause-capped : goal.invariant_of-result-clause-capped
invariant_of-result-clause-capped g c =
    let p = c.args.self.now in
    let d = p.drawing.now in
    let x = c.args.role in
    let made = c.from_fn-bytes.ensures.items in
    let each : (i : ℕ) → i < 16 → slice_index c.from_fn-bytes.result i ≤ most_bytes =
    λ i l. asked_most d i x p.words (slice_index c.from_fn-bytes.result i) p.narrow (made_each _ _ (λ i v. Asked d i x p.words v) (λ i y q r. search rules) c.from_fn-bytes.result 0 16 i made.each l) in
    λ i. elim (cases_lt i 16) [
      | inl l ↦ each i l
      | inr h ↦ omega (arith, get_or_past c.from_fn-bytes.result i 0 (omega (arith, made.long)))
    ]

pub returns : goal.returns
returns g c =
    let p = c.args.self.now in
    let d = p.drawing.now in
    let x = c.args.role in
    let made = c.from_fn-bytes.ensures.items in
    λ i l. asked_bytes d i x p.words (slice_index c.from_fn-bytes.result i) l c.requires
    (made_each _ _ (λ i v. Asked d i x p.words v) (λ i y q r. search rules) c.from_fn-bytes.result 0 16 i made.each (omega (arith, l, d.target.counted.1)))
