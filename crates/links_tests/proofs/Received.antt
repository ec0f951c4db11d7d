-- A frame put to a quiet link is accepted, and is what a look then gives.
use Rattle.std.proofs.Common.{◌≡◌, ℕ, ◌<◌, ◌≤◌, eqb, List, [], ◌∷◌, ◌++◌, length, drop, Some, None, Ok, Err, Option, Result, refl, ap, ◌∙◌, arith}
use Rattle.std.proofs.lemmas.Bool.{eq-eqb, cond-true}
use Rattle.faults.specs.declared.cause.Cause.{Cause}
use Rattle.faults.specs.declared.fault.Fault.{Fault}
use Rattle.links.proofs.Refused.{look_some}
use Rattle.links.specs.Calls.{PutDone, Look}
use Rattle.links.specs.Frames.{none_waits, oldest, most_words}

pub not_both : (o : Option Cause) (w : Cause) → o ≡ None → o ≡ Some w → ⊥
not_both o w p q = let z : ◌≡◌ {A = ℕ} 0 1 = cc in omega arith

module _ {S : Type 0} (boards : S → ℕ) (waiting : S → ℕ → List (List ℕ)) (board : ℕ) (frame : List ℕ) where
  -- the list of a board that had none
  pub alone : (s t : S) → PutDone boards waiting s board frame t → waiting s board ≡ [] → waiting t board ≡ frame ∷ []
  alone s t d e =
      d.lists board ∙ cond-true (eqb board board) (waiting s board ++ frame ∷ []) (waiting s board) (eq-eqb board board refl)
      ∙ ap (λ (fs : List (List ℕ)). fs ++ frame ∷ []) e

  pub looked : (t : S) (room : List ℕ) (r : Result ℕ Fault) (after : List ℕ) → Look boards waiting t board room r after
      → board < boards t → most_words ≤ length room → waiting t board ≡ frame ∷ []
      → (r ≡ Ok (length frame)) × (after ≡ frame ++ drop (length frame) room)
  looked t room (Ok len) after a l h e =
      let n : len ≡ length frame = a.1.size ∙ ap (λ (fs : List (List ℕ)). length (oldest fs)) e in
      let c : after ≡ frame ++ drop len room = a.1.copied ∙ ap (λ (fs : List (List ℕ)). oldest fs ++ drop len room) e in
      (ap Ok n, c ∙ ap (λ (k : ℕ). frame ++ drop k room) n)
  looked t room (Err f) after a l h e =
      absurd (not_both _ f.cause (look_some (boards t) board (length room) (waiting t board) l h (ap none_waits e)) a.0)
