-- Each index of a side is within exactly one of its blocks.
use Rattle.std.proofs.Common.{◌≡◌, ℕ, zero, suc, ◌+◌, ◌-◌, ◌<◌, ◌≤◌, Bool, true, false, leb, List, [], ◌∷◌, length, get_or, drop, sym, refl, ap, ◌∙◌, subst, inl, inr, add-zero, arith}
use Rattle.std.proofs.lemmas.List.{get_or-drop, length-drop}
use Rattle.std.proofs.lemmas.List.Sums.{prefix_len-le-length}
use Rattle.std.proofs.lemmas.Bool.{cases_Bool, cases_order, cases_eq, leb-true, leb-false}
use Rattle.std.specs.List.{prefix_len}
use Rattle.splits.specs.Splits.{Cuts, Within, spans, covering, Covered}

-- the longest front of a list that passes: what is in it, and what stops it
passes : (p : ℕ → Bool) (xs : List ℕ) (j : ℕ) → j < prefix_len p xs → p (get_or xs j 0) ≡ true
passes p [] j l = absurd (omega arith)
passes p (x ∷ xs) zero l =
    elim (cases_Bool (p x)) [ inl t ↦ t | inr f ↦ (let m : 0 < 0 = rw f at l in absurd (omega arith)) ]
passes p (x ∷ xs) (suc i) l =
    elim (cases_Bool (p x)) [
      | inl t ↦ (let m : suc i < 1 + prefix_len p xs = rw t at l in passes p xs i (omega arith))
      | inr f ↦ (let m : suc i < 0 = rw f at l in absurd (omega arith))
    ]

stops : (p : ℕ → Bool) (xs : List ℕ) → prefix_len p xs < length xs → p (get_or xs (prefix_len p xs) 0) ≡ false
stops p [] l = absurd (omega arith)
stops p (x ∷ xs) l =
    elim (cases_Bool (p x)) [
      | inl t ↦ (let m : 1 + prefix_len p xs < suc (length xs) = rw t at l in rw (t, one_add (prefix_len p xs)) (stops p xs (omega arith)))
      | inr f ↦ rw f f
    ]
  where
    one_add : (n : ℕ) → 1 + n ≡ suc n
    one_add n = omega arith

-- the splits rise from any index to any later one
pub climbs : (size : ℕ) (xs : List ℕ) → Cuts size xs → (a d : ℕ) → a + d < length xs → get_or xs a 0 ≤ get_or xs (a + d) 0
climbs size xs c a zero l = rw (add-zero a) (omega arith)
climbs size xs c a (suc d) l =
    let m : a + d + 1 < length xs = omega arith in
    let s : a + d + 1 ≡ a + suc d = omega arith in
    let r : get_or xs (a + d) 0 < get_or xs (a + suc d) 0 = subst (λ n. get_or xs (a + d) 0 < get_or xs n 0) s (c.rises (a + d) m) in
    omega (arith, climbs size xs c a d (omega arith), r)

pub rises_to : (size : ℕ) (xs : List ℕ) → Cuts size xs → (a b : ℕ) → a ≤ b → b < length xs → get_or xs a 0 ≤ get_or xs b 0
rises_to size xs c a b h l =
    let s : a + (b - a) ≡ b = omega arith in
    subst (λ n. get_or xs a 0 ≤ get_or xs n 0) s (climbs size xs c a (b - a) (omega arith))

-- an index within a block is one of the side
pub in_side : (size : ℕ) (xs : List ℕ) → Cuts size xs → (k i : ℕ) → Within xs k i → i < size
in_side size xs c k i w =
    let l : length xs - 1 < length xs = omega (arith, c.long) in
    omega (arith, rises_to size xs c (k + 1) (length xs - 1) (omega (arith, w.one)) l, w.to, c.last)

-- two blocks that share an index are one
pub within_one : (size : ℕ) (xs : List ℕ) → Cuts size xs → (j k i : ℕ) → Within xs j i → Within xs k i → j ≡ k
within_one size xs c j k i v w =
    elim (cases_order j k) [
      | inl e ↦ e
      | inr o ↦ (elim o [
        | inl l ↦ absurd (omega (arith, rises_to size xs c (j + 1) k (omega arith) (omega (arith, w.one)), v.to, w.from))
        | inr l ↦ absurd (omega (arith, rises_to size xs c (k + 1) j (omega arith) (omega (arith, v.one)), w.to, v.from))
      ])
    ]

module _ (size : ℕ) (xs : List ℕ) (i : ℕ) (c : Cuts size xs) (l : i < size) where
  reached : (k : ℕ) → k < covering xs i → get_or xs (1 + k) 0 ≤ i
  reached k h =
      let p = passes (λ x. leb x i) (drop 1 xs) k h in
      let q : leb (get_or xs (1 + k) 0) i ≡ true = ap (λ y. leb y i) (sym (get_or-drop 1 xs k 0)) ∙ p in
      leb-true (get_or xs (1 + k) 0) i q

  one_of : covering xs i < spans xs
  one_of =
      elim (cases_eq (covering xs i) (spans xs)) [
        | inl e ↦
            (let s : 1 + (spans xs - 1) ≡ length xs - 1 = omega (arith, c.long) in
            let z : get_or xs (length xs - 1) 0 ≤ i = subst (λ n. get_or xs n 0 ≤ i) s (reached (spans xs - 1) (omega (arith, c.long, e))) in
            absurd (omega (arith, c.last, z, l)))
        | inr n ↦ omega (arith, prefix_len-le-length (λ x. leb x i) (drop 1 xs), length-drop 1 xs, n)
      ]

  starts : (n : ℕ) → covering xs i ≡ n → get_or xs n 0 ≤ i
  starts zero e = omega (arith, c.first)
  starts (suc k) e =
      let r = reached k (omega (arith, e)) in
      let s : 1 + k ≡ suc k = omega arith in
      subst (λ m. get_or xs m 0 ≤ i) s r

  stays : i < get_or xs (covering xs i + 1) 0
  stays =
      let p = stops (λ x. leb x i) (drop 1 xs) (omega (arith, one_of, length-drop 1 xs)) in
      let s : 1 + covering xs i ≡ covering xs i + 1 = omega arith in
      let q : leb (get_or xs (1 + covering xs i) 0) i ≡ false = ap (λ y. leb y i) (sym (get_or-drop 1 xs (covering xs i) 0)) ∙ p in
      leb-false (get_or xs (covering xs i + 1) 0) i (subst (λ m. leb (get_or xs m 0) i ≡ false) s q)

  pub within : Within xs (covering xs i) i
  within = record { one = one_of; from = starts (covering xs i) refl; to = stays }

pub covered : Covered
covered size xs i c l =
    let w = within size xs i c l in
    (w, λ k v. within_one size xs c k (covering xs i) i v w)
