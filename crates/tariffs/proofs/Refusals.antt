-- What is known where nothing is refused.
use Rattle.std.proofs.Common.{◌≡◌, ℕ, ◌≤◌, ◌&&◌, leb, Some, None, Option, refl, arith}
use Rattle.std.proofs.lemmas.Bool.{and_parts, leb-true}
use Rattle.std.specs.Option.{option_or}
use Rattle.faults.specs.declared.cause.Cause.{Cause}
use Rattle.tariffs.specs.Asked.{passed}
use Rattle.tariffs.specs.Questions.{boards_refusal, most_boards}

pub neither : (a b : Option Cause) → option_or a b ≡ None → (a ≡ None) × (b ≡ None)
neither None b e = (refl, e)
neither (Some c) b e = let z : ◌≡◌ {A = ℕ} 0 1 = cc in absurd (omega arith)

pub boards_kept : (n : ℕ) → boards_refusal n ≡ None → (1 ≤ n) × (n ≤ most_boards)
boards_kept n e =
    let b = and_parts (leb 1 n) (leb n most_boards) (passed (leb 1 n && leb n most_boards) _ _ e).0 in
    (leb-true 1 n b.0, leb-true n most_boards b.1)
