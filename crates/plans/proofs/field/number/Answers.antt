use Rattle.std.proofs.Common.{◌≡◌, ℕ, ◌-◌, ◌≤◌, Bool, true, false, List, length, take, drop, ℤ, ◌≤ℤ◌, Some, None, Decides, sym, ap, ◌∙◌, arith, w64, SFits, to_z, of_z, rules}
use Rattle.std.proofs.lemmas.Slice.Eq.{slice_eq-Decides}
use Rattle.std.proofs.lemmas.Int.{ints, to_z-of_z}
use Rattle.std.proofs.lemmas.Bool.{both_ways}
use Rattle.std.specs.Fmt.{signed_decimal}
use Rattle.sheets.specs.Text.{text, meant, reads}
use Rattle.sheets.proofs.Fields.{text_part, reads_far, reads_low, reads_high, reads_text, reads_other}
use Rattle.plans.proofs.field.number.Goals as goal
use Rattle.plans.proofs.field.number.Goals.{then-z-low-via-then-z-low, then-z-low-via-else-z-low+then-high-z}
use Rattle.std.proofs.lemmas.Bool.Decides.{Decides-eqb}

pub returns-in_err-z : goal.returns-in_err-z
returns-in_err-z c =
    c.from_residual.ensures
    ∙ reads_far (length c.args.field.now) c.args.low c.args.high c.args.field.now c.requires.limits.0 c.requires.limits.1 (omega (arith, c.in_err-z.ensures))

pub returns-then-z-low : goal.returns-then-z-low
returns-then-z-low c =
    let w = length c.args.field.now in
    let z = c.in_ok-z.z in
    let is = c.in_ok-z.ensures in
    elim c.then-z-low.branch [
      | then-z-low-via-then-z-low v ↦ reads_low w c.args.low c.args.high c.args.field.now z is (grind (arith, ints))
      | then-z-low-via-else-z-low+then-high-z v ↦ reads_high w c.args.low c.args.high c.args.field.now z is (grind (arith, ints))
    ]

-- what the comparison with the number's text tells
module _ (field columns : List ℕ) (z lo hi : ℤ) (r : Bool) (width : length field ≤ 20) (fits : SFits w64 z) (low : lo ≤ℤ z) (high : z ≤ℤ hi)
    (room : (y : ℤ) → lo ≤ℤ y → y ≤ℤ hi → length (signed_decimal y) ≤ length field) (text_is : columns ≡ text 20 (to_z w64 (of_z w64 z)))
    (told : Decides r (field ≡ take (20 - (20 - length field)) (drop (20 - length field) columns))) where
  part_is : take (20 - (20 - length field)) (drop (20 - length field) columns) ≡ text (length field) z
  part_is = text_part (length field) z columns width (room z low high) (text_is ∙ ap (text 20) (to_z-of_z w64 z fits))

  taken : z ≡ meant field → r ≡ true → Some (to_z w64 (of_z w64 z)) ≡ reads (length field) lo hi field
  taken is e = ap Some (to_z-of_z w64 z fits) ∙ reads_text (length field) lo hi field z is low high (told.0 e ∙ part_is)

  passed : z ≡ meant field → r ≡ false → None ≡ reads (length field) lo hi field
  passed is e = reads_other (length field) lo hi field z is (λ t. both_ways r e (told.1 (t ∙ sym part_is)))

pub returns-then-eq : goal.returns-then-eq
returns-then-eq c =
    let fits : SFits w64 c.in_ok-z.z = search rules in
    taken c.args.field.now c.numeral-columns.result c.in_ok-z.z c.args.low c.args.high c.eq.result c.requires.width fits
    (grind (arith, ints)) (grind (arith, ints)) c.requires.room c.numeral-columns.ensures (slice_eq-Decides Decides-eqb _ _ _ c.eq.ensures) c.in_ok-z.ensures c.if-eq.true

pub returns-else-eq : goal.returns-else-eq
returns-else-eq c =
    let fits : SFits w64 c.in_ok-z.z = search rules in
    passed c.args.field.now c.numeral-columns.result c.in_ok-z.z c.args.low c.args.high c.eq.result c.requires.width fits
    (grind (arith, ints)) (grind (arith, ints)) c.requires.room c.numeral-columns.ensures (slice_eq-Decides Decides-eqb _ _ _ c.eq.ensures) c.in_ok-z.ensures c.if-eq.false
