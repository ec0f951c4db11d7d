-- What a link does with a frame that is sent to it while it is quiet, said of any link. Assumes nothing.
--     Carried boards waiting s board frame room r after
--         where nothing waited for any board, a frame for one of the boards is put, and a look finds it
use Rattle.std.specs.Prelude.{◌≡◌, ℕ, ◌<◌, ◌≤◌, List, ◌++◌, length, drop, Ok, Result}
use Rattle.faults.specs.declared.fault.Fault.{Fault}
use Rattle.links.specs.Frames.{Frame, Quiet, most_words}

abbrev pub Carried : {S : Type 0} → (S → ℕ) → (S → ℕ → List (List ℕ)) → S → ℕ → List ℕ → List ℕ → Result ℕ Fault → List ℕ → Type 0
Carried boards waiting s board frame room r after =
    Quiet (boards s) (waiting s) → board < boards s → Frame frame → most_words ≤ length room
    → (r ≡ Ok (length frame)) × (after ≡ frame ++ drop (length frame) room)
