-- Lists that rise strictly to a size, and the lists that they refine.
use Rattle.std.proofs.Common.{◌≡◌, ℕ, zero, suc, ◌+◌, ◌-◌, ◌<◌, ◌≤◌, Bool, true, false, ◌||◌, eqb, ◌⊎◌, List, [], ◌∷◌, length, get_or, sym, refl, ◌∙◌, subst, inl, inr, add-zero, add-one, arith}
use Rattle.std.proofs.lemmas.List.{ext_get_or}
use Rattle.std.proofs.lemmas.Bool.{cases_Bool, cases_lt, cases_order, eqb-true, eq-eqb, false≢true, or_cases, or_left, or_right}
use Rattle.splits.specs.Splits.{Cuts, Within, covering}
use Rattle.splits.proofs.Covering.{within, covered}
use Rattle.overlays.specs.Lines.{Lines, Union, among}

-- v is an entry of xs
abbrev pub Among : List ℕ → ℕ → Type 0
Among xs v = (k : ℕ) × (k < length xs) × (get_or xs k 0 ≡ v)

among_true : (v : ℕ) (xs : List ℕ) → among v xs ≡ true → Among xs v
among_true v [] e = absurd (false≢true e)
among_true v (x ∷ xs) e =
    elim (cases_Bool (eqb v x)) [
      | inl t ↦ (0, omega arith, sym (eqb-true v x t))
      | inr f ↦ (let m : among v xs ≡ true = rw f at e in let r = among_true v xs m in (suc r.0, omega (arith, r.1), r.2))
    ]

among_from : (v : ℕ) (xs : List ℕ) (k : ℕ) → k < length xs → get_or xs k 0 ≡ v → among v xs ≡ true
among_from v [] k h e = absurd (omega arith)
among_from v (x ∷ xs) zero h e = or_left (eqb v x) (among v xs) (eq-eqb v x (sym e))
among_from v (x ∷ xs) (suc k) h e = or_right (eqb v x) (among v xs) (among_from v xs k (omega arith) e)

pub same_bool : (a b : Bool) → (a ≡ true → b ≡ true) → (b ≡ true → a ≡ true) → a ≡ b
same_bool true b f g = sym (f refl)
same_bool false true f g = g refl
same_bool false false f g = refl

-- the union, by its entries
pub of_first : (size : ℕ) (xs ys zs : List ℕ) → Union size xs ys zs → (v : ℕ) → Among xs v → Among zs v
of_first size xs ys zs u v a = among_true v zs (u.entries v ∙ or_left (among v xs) (among v ys) (among_from v xs a.0 a.1 a.2))

pub of_second : (size : ℕ) (xs ys zs : List ℕ) → Union size xs ys zs → (v : ℕ) → Among ys v → Among zs v
of_second size xs ys zs u v a = among_true v zs (u.entries v ∙ or_right (among v xs) (among v ys) (among_from v ys a.0 a.1 a.2))

no_other : (size : ℕ) (xs ys zs : List ℕ) → Union size xs ys zs → (v : ℕ) → Among zs v → Among xs v ⊎ Among ys v
no_other size xs ys zs u v a =
    elim (or_cases (among v xs) (among v ys) (sym (u.entries v) ∙ among_from v zs a.0 a.1 a.2)) [
      | inl t ↦ inl (among_true v xs t)
      | inr t ↦ inr (among_true v ys t)
    ]

pub union_of : (size : ℕ) (xs ys zs : List ℕ) → Lines size zs → ((v : ℕ) → Among xs v → Among zs v) → ((v : ℕ) → Among ys v → Among zs v)
    → ((v : ℕ) → Among zs v → Among xs v ⊎ Among ys v) → Union size xs ys zs
union_of size xs ys zs l f g h =
    let put : (v : ℕ) → Among zs v → among v zs ≡ true = λ v a. among_from v zs a.0 a.1 a.2 in
    record {
      lines = l;
      entries =
          λ v.
          same_bool (among v zs) (among v xs || among v ys)
          (λ t.
          (elim (h v (among_true v zs t)) [
            | inl a ↦ or_left (among v xs) (among v ys) (among_from v xs a.0 a.1 a.2)
            | inr a ↦ or_right (among v xs) (among v ys) (among_from v ys a.0 a.1 a.2)
          ]))
          (λ t.
          (elim (or_cases (among v xs) (among v ys) t) [
            | inl a ↦ put v (f v (among_true v xs a))
            | inr a ↦ put v (g v (among_true v ys a))
          ]));
    }

pub cuts_lines : (size : ℕ) (xs : List ℕ) → Cuts size xs → Lines size xs
cuts_lines size xs c = record { first = c.first; rises = c.rises; last = c.last; long = c.long }

module _ (size : ℕ) (zs : List ℕ) (l : Lines size zs) where
  climbs : (a d : ℕ) → a + d < length zs → get_or zs a 0 ≤ get_or zs (a + d) 0
  climbs a zero h = rw (add-zero a) (omega arith)
  climbs a (suc d) h =
      let m : a + d + 1 < length zs = omega arith in
      let s : a + d + 1 ≡ a + suc d = omega arith in
      let r : get_or zs (a + d) 0 < get_or zs (a + suc d) 0 = subst (λ n. get_or zs (a + d) 0 < get_or zs n 0) s (l.rises (a + d) m) in
      omega (arith, climbs a d (omega arith), r)

  pub rises_to : (a b : ℕ) → a ≤ b → b < length zs → get_or zs a 0 ≤ get_or zs b 0
  rises_to a b h k =
      let s : a + (b - a) ≡ b = omega arith in
      subst (λ n. get_or zs a 0 ≤ get_or zs n 0) s (climbs a (b - a) (omega arith))

  pub rises_past : (a b : ℕ) → a < b → b < length zs → get_or zs a 0 < get_or zs b 0
  rises_past a b h k = omega (arith, l.rises a (omega arith), rises_to (a + 1) b (omega arith) k)

  pub some_size : 0 < size
  some_size = omega (arith, rises_past 0 (length zs - 1) (omega (arith, l.long)) (omega (arith, l.long)), l.first, l.last)

  -- what stands in order lies in order
  pub in_order : (a b : ℕ) → a < length zs → b < length zs → get_or zs a 0 < get_or zs b 0 → a < b
  in_order a b h k m = elim (cases_lt a b) [ inl o ↦ o | inr o ↦ absurd (omega (arith, rises_to b a o h)) ]

  pub at_most : (a : ℕ) → a < length zs → get_or zs a 0 ≤ size
  at_most a h = omega (arith, rises_to a (length zs - 1) (omega arith) (omega arith), l.last)

  -- each index of the side is within exactly one span
  find : (r n : ℕ) → n < length zs → r < get_or zs n 0 → (k : ℕ) × Within zs k r
  find r zero h m = absurd (omega (arith, l.first))
  find r (suc n) h m =
      elim (cases_lt r (get_or zs n 0)) [
        | inl o ↦ find r n (omega arith) o
        | inr o ↦ (n, record { one = omega arith; from = o; to = subst (λ x. r < get_or zs x 0) (sym (add-one n)) m })
      ]

  pub span_of : (r : ℕ) → r < size → (k : ℕ) × Within zs k r
  span_of r h = find r (length zs - 1) (omega (arith, l.long)) (omega (arith, l.last))

  pub in_side : (k i : ℕ) → Within zs k i → i < size
  in_side k i w = omega (arith, at_most (k + 1) (omega (arith, w.one)), w.to)

  pub span_one : (j k i : ℕ) → Within zs j i → Within zs k i → j ≡ k
  span_one j k i v w =
      elim (cases_order j k) [
        | inl e ↦ e
        | inr o ↦ (elim o [
          | inl h ↦ absurd (omega (arith, rises_to (j + 1) k (omega arith) (omega (arith, w.one)), v.to, w.from))
          | inr h ↦ absurd (omega (arith, rises_to (k + 1) j (omega arith) (omega (arith, v.one)), w.to, v.from))
        ])
      ]

-- a list of splits whose entries are all among the lines has one block for each span of the lines
module _ (size : ℕ) (xs zs : List ℕ) (c : Cuts size xs) (l : Lines size zs) (all : (v : ℕ) → Among xs v → Among zs v) (k r : ℕ) (w : Within zs k r) where
  below : r < size
  below = in_side size zs l k r w

  here : Within xs (covering xs (get_or zs k 0)) (get_or zs k 0)
  here = within size xs (get_or zs k 0) c (omega (arith, below, w.from))

  stays : r < get_or xs (covering xs (get_or zs k 0) + 1) 0
  stays =
      let a = covering xs (get_or zs k 0) in
      let m = all (get_or xs (a + 1) 0) (a + 1, omega (arith, here.one), refl) in
      let p = in_order size zs l k m.0 (omega (arith, w.one)) m.1 (omega (arith, m.2, here.to)) in
      omega (arith, rises_to size zs l (k + 1) m.0 (omega (arith, p)) m.1, m.2, w.to)

  pub same_covering : covering xs r ≡ covering xs (get_or zs k 0)
  same_covering =
      sym ((covered size xs r c below).1 (covering xs (get_or zs k 0)) (record { one = here.one; from = omega (arith, here.from, w.from); to = stays }))

-- of two lists of lines with the same entries, the next ones are the same
module _ (size : ℕ) (zs ws : List ℕ) (l : Lines size zs) (m : Lines size ws) (to : (v : ℕ) → Among zs v → Among ws v) where
  next : (k : ℕ) → get_or zs k 0 ≡ get_or ws k 0 → k < length ws → k + 1 < length zs → (k + 1 < length ws) × (get_or ws (k + 1) 0 ≤ get_or zs (k + 1) 0)
  next k e h o =
      let a = to (get_or zs (k + 1) 0) (k + 1, o, refl) in
      let p = in_order size ws m k a.0 h a.1 (omega (arith, a.2, e, l.rises k o)) in
      (omega (arith, a.1, p), omega (arith, rises_to size ws m (k + 1) a.0 (omega (arith, p)) a.1, a.2))

module _ (size : ℕ) (zs ws : List ℕ) (l : Lines size zs) (m : Lines size ws) (to : (v : ℕ) → Among zs v → Among ws v) (back : (v : ℕ) → Among ws v → Among zs v) where
  same_at : (k : ℕ) → k < length zs → (k < length ws) × (get_or zs k 0 ≡ get_or ws k 0)
  same_at zero h = (omega (arith, m.long), l.first ∙ sym m.first)
  same_at (suc k) h =
      let p = same_at k (omega arith) in
      let q = next size zs ws l m to k p.1 p.0 (omega arith) in
      let t = next size ws zs m l back k (sym p.1) (omega arith) q.0 in
      subst (λ x. (x < length ws) × (get_or zs x 0 ≡ get_or ws x 0)) (add-one k) (q.0, omega (arith, q.1, t.1))

  pub no_longer : length zs ≤ length ws
  no_longer = omega (arith, (same_at (length zs - 1) (omega (arith, l.long))).0, l.long)

same_entries : (size : ℕ) (xs ys zs ws : List ℕ) → Union size xs ys zs → Union size xs ys ws → (v : ℕ) → Among zs v → Among ws v
same_entries size xs ys zs ws u w v a = elim (no_other size xs ys zs u v a) [ inl x ↦ of_first size xs ys ws w v x | inr y ↦ of_second size xs ys ws w v y ]

pub union_once : (size : ℕ) (xs ys zs ws : List ℕ) → Union size xs ys zs → Union size xs ys ws → zs ≡ ws
union_once size xs ys zs ws u w =
    let to = same_entries size xs ys zs ws u w in
    let back = same_entries size xs ys ws zs w u in
    let e : length zs ≡ length ws = omega (arith, no_longer size zs ws u.lines w.lines to back, no_longer size ws zs w.lines u.lines back to) in
    ext_get_or 0 zs ws e (λ k h. (same_at size zs ws u.lines w.lines to back k h).1)
