-- Arrays that a closure makes, which stays the same at each call.
use Rattle.std.proofs.Common.{◌≡◌, ℕ, zero, suc, ◌+◌, ◌<◌, List, slice_index_or, sym, subst, arith}
use Rattle.std.specs.Array.{IsFromFnResultFrom}
use Rattle.std.specs.Fn.{Called, Mut}

-- what holds of each answer holds of each element
module _ {F B : Type 0} (g : Mut F (ℕ × Unit {0}) B) (f : F) (P : ℕ → B → Type 0)
    (called : (i : ℕ) (y : B) (q : F) → Called g f (i, tt) y q → (q ≡ f) × P i y) where
  made_from : (ys : List B) (e : B) (i n k : ℕ) → IsFromFnResultFrom g f ys i n → k < n → P (i + k) (slice_index_or ys (i + k) e)
  made_from ys e i zero k m l = absurd (omega arith)
  made_from ys e i (suc n) zero m l =
      subst (λ z. P z (slice_index_or ys z e)) (omega arith) (subst (P i) (sym (m.2.1 e)) (called i m.1 m.0 m.3).1)
  made_from ys e i (suc n) (suc k) m l =
      subst (λ z. P z (slice_index_or ys z e)) (omega arith)
      (made_from ys e (i + 1) n k (subst (λ z. IsFromFnResultFrom g z ys (i + 1) n) (called i m.1 m.0 m.3).0 m.4) (omega arith))

  pub made_each : (ys : List B) (e : B) (n k : ℕ) → IsFromFnResultFrom g f ys 0 n → k < n → P k (slice_index_or ys k e)
  made_each ys e n k m l = subst (λ z. P z (slice_index_or ys z e)) (omega arith) (made_from ys e 0 n k m l)
