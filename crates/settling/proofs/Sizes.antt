-- The sizes of packages.
use Rattle.std.proofs.Common.{◌≡◌, ℕ, ◌<◌, ◌≤◌, Ok, Err, Result, mul-le-mul, arith}
use Rattle.std.proofs.lemmas.Bool.Decides.{nat_tests}
use Rattle.std.specs.Result.{result_unwrap_or}
use Rattle.drawings.specs.Asking.{board_refusal}
use Rattle.drawings.specs.Drawings.{package_of}
use Rattle.drawings.specs.declared.drawing.Drawing.{Drawing}
use Rattle.drawings.proofs.Drawings.{package_most}
use Rattle.faults.specs.Answers.{Answers}
use Rattle.faults.specs.declared.fault.Call.TheVariants.{Ask}
use Rattle.faults.specs.declared.fault.Fault.{Fault}
use Rattle.faults.specs.declared.fault.Layer.TheVariants.{Drawings}
use Rattle.overlays.specs.Packages.{bytes}
use Rattle.tariffs.specs.Questions.{most_bytes}

-- no package has more bytes than a tariff answers for
pub bytes_most : (d : Drawing) (i x w : ℕ) → w ≤ 4 → bytes (package_of d i x) w ≤ most_bytes
bytes_most d i x w l = omega (arith, mul-le-mul (package_most d i x) l)

-- v is what a drawing answers for a package, and 0 where it refuses to
abbrev pub Asked : Drawing → ℕ → ℕ → ℕ → ℕ → Type 0
Asked d i x w v =
    (r : Result ℕ Fault) × Answers Drawings Ask (board_refusal d i x) r (λ n. n ≡ bytes (package_of d i x) w) (Unit {0}) × (v ≡ result_unwrap_or r 0)

pub asked_most : (d : Drawing) (i x w v : ℕ) → w ≤ 4 → Asked d i x w v → v ≤ most_bytes
asked_most d i x w v l (Ok n, a, e) = omega (arith, e, a.1, bytes_most d i x w l)
asked_most d i x w v l (Err f, a, e) = omega (arith, e)

pub asked_bytes : (d : Drawing) (i x w v : ℕ) → i < d.target.boards → x < d.target.boards → Asked d i x w v → v ≡ bytes (package_of d i x) w
asked_bytes d i x w v l m (Ok n, a, e) = omega (arith, e, a.1)
asked_bytes d i x w v l m (Err f, a, e) = absurd (grind (arith, nat_tests, a.0))
