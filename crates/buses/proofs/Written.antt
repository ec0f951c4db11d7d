-- The words of a list after an entry was written into it, or removed from it.
use Rattle.std.proofs.Common.{◌≡◌, ℕ, ◌+◌, ◌-◌, ◌≤◌, List, [], ◌∷◌, ◌++◌, length, take, drop, set, ap, ◌∙◌, arith}
use borrow.Rule.Slice.PartMut.{put_mid}
use lib.Seq.{paste}
use Rattle.std.proofs.lemmas.List.{append_assoc, take_at, take_more_set, drop-drop, drop-set-lt, length-append, length-drop, length-set, length-take-le}
use Rattle.std.proofs.lemmas.Slice.{between_is}

pub written : (w f g : List ℕ) (at b k : ℕ) → at + 2 + length f ≤ length w → g ≡ f → k ≡ length f
    → put_mid (at + 2) k (set (set w at b) (at + 1) (length f)) g ≡ take at w ++ (b ∷ length f ∷ f) ++ drop (at + 2 + length f) w
written w f g at b k l p q =
    let v = set w at b in
    let u = set v (at + 1) (length f) in
    let lv : length v ≡ length w = length-set w at b in
    let n : at + 2 ≡ at + 1 + 1 = omega arith in
    let front : take (at + 2) u ≡ (take at w ++ b ∷ []) ++ length f ∷ [] =
    ap (λ (i : ℕ). take i u) n ∙ take_more_set v (at + 1) (length f) (omega arith) ∙ ap (λ (t : List ℕ). t ++ length f ∷ []) (take_more_set w at b (omega arith)) in
    let back : drop k (drop (at + 2) u) ≡ drop (at + 2 + length f) w =
    drop-drop k (at + 2) u ∙ ap (λ (i : ℕ). drop (at + 2 + i) u) q ∙ drop-set-lt (at + 2 + length f) v (at + 1) (length f) (omega arith) ∙ drop-set-lt (at + 2 + length f) w at b (omega arith) in
    rw (front, back, p) (simp append_assoc)

-- sliding what follows an entry over it
pub slid : (w : List ℕ) (at next used r : ℕ) → at ≤ next → next ≤ used → used ≤ length w → r ≡ at + (used - next)
    → take r (paste w at (drop next w) (used - next)) ≡ take at w ++ drop next (take used w)
slid w at next used r l m n e =
    let front = take at w ++ take (used - next) (drop next w) in
    let len : length front ≡ r =
    length-append (take at w) (take (used - next) (drop next w))
    ∙ omega (arith, length-take-le at w (omega arith), length-take-le (used - next) (drop next w) (omega (arith, length-drop next w)), length-drop next w) in
    take_at front (drop (at + (used - next)) w) r len ∙ ap (λ (t : List ℕ). take at w ++ t) (between_is w next used)
