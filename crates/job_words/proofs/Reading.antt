-- What `parse` answers, in the words of Numerals.
use Rattle.std.proofs.Common.{◌≡◌, ℕ, true, List, get_or, Ok, Err, Result, arith, rules}
use Rattle.std.proofs.lemmas.Str.Parse.{IsNumeralModel, numerals_by_fold, tells_all_ascii_digits, not_in_digits, parse_plain}
use Rattle.std.specs.Str.Parse.{ParsesUnsigned}
use Rattle.std.specs.Result.{result_ok}
use Rattle.std.specs.Str.{all_ascii_digits}
use Rattle.job_words.specs.Numerals.{value_after, Writes, Reads}

pub own : IsNumeralModel (λ ds. all_ascii_digits ds ≡ true) (value_after 0)
own = numerals_by_fold _ tells_all_ascii_digits value_after (search rules)

-- A word with a plus in front writes no number.
pub plus_writes_none : (k : ℕ) (w : List ℕ) → get_or w 0 0 ≡ 43 → Writes k w → ⊥
plus_writes_none k w e (digits, some, fits) = not_in_digits own w 43 digits (λ d. omega (arith, d.0, d.1)) 0 some e

-- Without one, `parse` reads it.
pub plain_reads : {E : Type 0} (k : ℕ) (w : List ℕ) (r : Result ℕ E) → ParsesUnsigned k 10 w r → (get_or w 0 0 ≡ 43 → ⊥) → Reads k (λ n. n) w (result_ok r)
plain_reads {E} k w (Ok n) h plain = parse_plain own {E = E} k w (Ok n) h plain
plain_reads {E} k w (Err e) h plain = parse_plain own {E = E} k w (Err e) h plain
