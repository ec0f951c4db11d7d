-- What an inbox holds after its words were written.
use Rattle.std.proofs.Common.{◌≡◌, ℕ, ◌≤◌, List, [], ◌∷◌, ◌++◌, length, refl, ap, arith}
use Rattle.std.proofs.lemmas.List.{take_at}
use Rattle.crossbars.specs.Held.{held}

-- an inbox whose words begin with a frame holds that frame
pub held_front : (f rest : List ℕ) → 1 ≤ length f → held (f ++ rest) (length f) ≡ f ∷ []
held_front [] rest l = absurd (omega arith)
held_front (x ∷ xs) rest l = ap (λ (w : List ℕ). w ∷ []) (take_at (x ∷ xs) rest (length (x ∷ xs)) refl)
