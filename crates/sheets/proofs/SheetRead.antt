-- A whole sheet, read field by field.
use Rattle.std.proofs.Common.{◌≡◌, ℕ, ◌+◌, ◌<◌, ◌≤◌, true, false, List, [], ◌∷◌, ◌++◌, length, take, drop, ℤ, pos, negsuc, nat_abs, ◌≤ℤ◌, Some, None, sym, refl, ap, ◌∙◌, arith, length-drop, length-take, w64, to_z, of_z}
use Rattle.std.proofs.lemmas.Slice.Eq.{bytes_eq-Decides}
use Rattle.std.proofs.lemmas.List.{take_all, drop_all}
use Rattle.std.proofs.lemmas.Int.{ints, to_z_pos}
use Rattle.std.specs.Str.{bytes_eq}
use Rattle.faults.specs.declared.cause.Cause.{Cause}
use Rattle.faults.specs.declared.cause.Cause.TheVariants.{Field}
use Rattle.sheets.specs.Sheet.{bill_high, sheet_length, part, first_illegal, fields, lines_fields, end_field, read_refusal}
use Rattle.sheets.specs.Text.{reads}
use Rattle.sheets.proofs.Fields.{same_no}
use Rattle.sheets.proofs.LinesRead.{illegal_after, illegal_before}

module _ (bs : List ℕ) (n : ℕ) (count : Some (pos n) ≡ reads 4 (pos 1) (pos 16) (part bs 0 4)) where
  by_count : read_refusal bs ≡ first_illegal bs (fields bs n)
  unfolding read_refusal
  by_count = rw (← count) refl

  module _ (z : ℤ) (bill : Some z ≡ reads 20 (pos 0) bill_high (part bs 4 20)) where
    module _ (ends : true ≡ bytes_eq (10 ∷ []) (part bs 24 1)) where
      first_stands : read_refusal bs ≡ first_illegal bs (lines_fields n 0 n ++ end_field bs n ∷ [])
      first_stands = by_count ∙ rw (← bill, ← ends) refl

      pub lines_fail : (c : Cause) → first_illegal bs (lines_fields n 0 n) ≡ Some c → read_refusal bs ≡ Some c
      lines_fail c e = first_stands ∙ illegal_before bs (lines_fields n 0 n) (end_field bs n ∷ []) c e

      lines_stand : first_illegal bs (lines_fields n 0 n) ≡ None → read_refusal bs ≡ first_illegal bs (end_field bs n ∷ [])
      lines_stand e = first_stands ∙ illegal_after bs (lines_fields n 0 n) (end_field bs n ∷ []) e

      pub rest_fails : first_illegal bs (lines_fields n 0 n) ≡ None → sheet_length n < length bs → read_refusal bs ≡ Some (Field (n + 2) 1)
      rest_fails e long =
          let some : bytes_eq [] (part bs (sheet_length n) (length bs)) ≡ false =
          same_no [] (part bs (sheet_length n) (length bs))
          (λ s. omega (arith, ap length s, length-take (length bs) (drop (sheet_length n) bs), length-drop (sheet_length n) bs)) in
          lines_stand e ∙ rw some refl

      pub all_stand : first_illegal bs (lines_fields n 0 n) ≡ None → length bs ≤ sheet_length n → read_refusal bs ≡ None
      all_stand e short =
          let none : bytes_eq [] (part bs (sheet_length n) (length bs)) ≡ true =
          (bytes_eq-Decides [] (part bs (sheet_length n) (length bs))).1
          (sym (ap (take (length bs)) (drop_all (sheet_length n) bs short) ∙ take_all (length bs) [] (omega arith))) in
          lines_stand e ∙ rw none refl

-- a bill in its limits is a natural number
pub bill_natural : (z : ℤ) → pos 0 ≤ℤ z → z ≤ℤ bill_high → (z ≡ pos (nat_abs (to_z w64 (of_z w64 z)))) × (nat_abs (to_z w64 (of_z w64 z)) ≤ 281474976710656)
bill_natural (pos n) low high =
    let small : n ≤ 281474976710656 = omega (arith, ints) in
    let e : nat_abs (to_z w64 n) ≡ n = ap nat_abs (to_z_pos w64 n (omega arith)) in
    (ap pos (sym e), omega arith)
bill_natural (negsuc n) low high = absurd (omega (arith, ints))
