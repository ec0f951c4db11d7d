-- What the refusals come to once the first tests have passed.
use Rattle.std.proofs.Common.{◌≡◌, ℕ, ◌<◌, ◌≤◌, Bool, true, false, List, None, arith}
use Rattle.std.proofs.lemmas.Bool.Decides.{nat_tests}
use Rattle.links.specs.Frames.{none_waits}
use Rattle.links.specs.Refusals.{board_refusal, frame_refusal, buffer_refusal, put_refusal, look_refusal, drop_refusal}

pub put_open : (n board len : ℕ) (o : Bool) → board < n → 1 ≤ len → len ≤ 64 → o ≡ true → put_refusal n o board len ≡ None
put_open n board len o h1 h2 h3 h4 = grind (arith, nat_tests)

pub look_some : (n board room : ℕ) (fs : List (List ℕ)) → board < n → 64 ≤ room → none_waits fs ≡ false → look_refusal n board room fs ≡ None
look_some n board room fs h1 h2 h3 = grind (arith, nat_tests)

pub drop_some : (n board : ℕ) (fs : List (List ℕ)) → board < n → none_waits fs ≡ false → drop_refusal n board fs ≡ None
drop_some n board fs h1 h2 = grind (arith, nat_tests)

-- what the shared checks let pass
pub board_kept : (n board : ℕ) → board_refusal n board ≡ None → board < n
board_kept n board e = grind (arith, nat_tests)

pub frame_kept : (len : ℕ) → frame_refusal len ≡ None → (1 ≤ len) × (len ≤ 64)
frame_kept len e = (grind (arith, nat_tests), grind (arith, nat_tests))

pub buffer_kept : (room : ℕ) → buffer_refusal room ≡ None → 64 ≤ room
buffer_kept room e = grind (arith, nat_tests)
