use Rattle.std.proofs.Common.{◌≡◌, ℕ, ◌+◌, ◌-◌, ◌≤◌, List, length, replicate, refl, ap, ◌∙◌, arith, w64}
use borrow.Rule.Slice.PartMut.{put_mid}
use Rattle.std.proofs.lemmas.Int.{to_z-of_z}
use Rattle.std.proofs.lemmas.List.{append-nil, take-replicate}
use Rattle.std.proofs.lemmas.List.Edits.{paste_all}
use Rattle.std.proofs.lemmas.Slice.{put_mid-paste}
use Rattle.std.specs.Fmt.{signed_decimal}
use Rattle.sheets.specs.Text.{padded, text}
use Rattle.plans.proofs.numeral.numeral.Goals as goal

-- a text in the last of 20 blank columns
justified : (t ys : List ℕ) → length t ≤ 20 → ys ≡ t → put_mid (20 - length t) (20 - (20 - length t)) (replicate 20 32) ys ≡ padded 20 t
justified t ys short is =
    let n = length t in
    let size : n ≡ 20 - (20 - n) = omega arith in
    let end : 20 - n + n ≡ 20 = omega arith in
    put_mid-paste (20 - n) (20 - (20 - n)) (replicate 20 32) ys t n is size refl
    ∙ paste_all (replicate 20 32) (20 - n) t n refl
    ∙ rw (end, append-nil t, take-replicate {X = ℕ} (20 - n) 20 32 (omega arith)) refl

pub returns : goal.returns
unfolding text
returns c =
    let z_is = to_z-of_z w64 c.args.z c.ranges.z in
    let digits : c.as_bytes-digits.result.now ≡ signed_decimal c.args.z = c.as_bytes-digits.ensures.value ∙ c.format.ensures.text ∙ ap signed_decimal z_is in
    justified c.as_bytes-digits.result.now c.copy_from_slice.new.self (omega (arith, ap length c.as_bytes-digits.ensures.value, c.format.ensures.fits)) c.copy_from_slice.ensures.after
    ∙ ap (padded 20) digits
