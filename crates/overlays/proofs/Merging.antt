-- Two lists of splits merged line by line, from the top.
use Rattle.std.proofs.Common.{◌≡◌, ℕ, ◌+◌, ◌-◌, ◌<◌, ◌≤◌, min, cond, eqb, ◌⊎◌, List, length, get_or, set, sym, ap, ◌∙◌, subst, inl, inr, arith}
use native.Mathlib.Nat.{min-eq_left, min-eq_right}
use Rattle.std.proofs.lemmas.List.{get_or-set_same, get_or-set_other}
use Rattle.std.proofs.lemmas.Bool.{cases_Bool, cases_eq, cases_lt, cond-true, cond-false, eqb-true, eqb-false}
use Rattle.splits.specs.Splits.{Cuts, covering}
use Rattle.splits.proofs.Covering.{covered}
use Rattle.overlays.specs.Lines.{Lines, Union}
use Rattle.overlays.proofs.Rising.{Among, union_of, cuts_lines, rises_past, some_size, at_most}

-- split m of xs is not above v, and the next one is
abbrev pub From : List ℕ → ℕ → ℕ → Type 0
From xs m v = (m < length xs) × (get_or xs m 0 ≤ v) × (m + 1 < length xs → v < get_or xs (m + 1) 0)

-- n lines z with the last one v, of which the first i splits of xs are some; line k begins in block s k of xs
pub record Side (xs : List ℕ) (i n v : ℕ) (z s : ℕ → ℕ) : Type 0 where
  pub some : 1 ≤ i
  pub most : i ≤ length xs
  pub past : get_or xs (i - 1) 0 ≤ v
  pub next : i < length xs → v < get_or xs i 0
  pub all : (a : ℕ) → a < i → (k : ℕ) × (k < n) × (z k ≡ get_or xs a 0)
  pub block : (k : ℕ) → k < n → From xs (s k) (z k)

-- n lines z with the last one v, which rise from 0 and come from xs or ys
pub record Merged (xs ys : List ℕ) (i j n v : ℕ) (z : ℕ → ℕ) : Type 0 where
  pub some : 1 ≤ n
  pub few : n + 1 ≤ i + j
  pub first : z 0 ≡ 0
  pub last : z (n - 1) ≡ v
  pub rises : (k : ℕ) → k + 1 < n → z k < z (k + 1)
  pub each : (k : ℕ) → k < n → Among xs (z k) ⊎ Among ys (z k)

module _ (size : ℕ) (xs : List ℕ) (c : Cuts size xs) where
  pub side_begins : (z s : ℕ → ℕ) → z 0 ≡ 0 → s 0 ≡ 0 → Side xs 1 1 0 z s
  side_begins z s ez es =
      let two : 0 + 1 < length xs = omega (arith, c.long) in
      let up : 0 < get_or xs 1 0 = omega (arith, c.rises 0 two, c.first) in
      let f : From xs 0 0 = (omega (arith, c.long), omega (arith, c.first), λ h. up) in
      record {
        some = omega arith;
        most = omega (arith, c.long);
        past = omega (arith, c.first);
        next = λ h. up;
        all = λ a h. (let e : a ≡ 0 = omega arith in (0, omega arith, ez ∙ (sym c.first ∙ ap (λ x. get_or xs x 0) (sym e))));
        block = λ k h. (let e : k ≡ 0 = omega arith in subst (λ x. From xs (s x) (z x)) (sym e) (subst (λ y. From xs y (z 0)) (sym es) (subst (λ y. From xs 0 y) (sym ez) f)));
      }

  -- as long as the last line is below the size there is a next split
  pub side_goes_on : (i n v : ℕ) (z s : ℕ → ℕ) → Side xs i n v z s → v < size → i < length xs
  side_goes_on i n v z s d h =
      elim (cases_eq i (length xs)) [
        | inl e ↦ (let w : get_or xs (length xs - 1) 0 ≤ v = subst (λ x. get_or xs (x - 1) 0 ≤ v) e d.past in absurd (omega (arith, w, c.last, h)))
        | inr o ↦ omega (arith, d.most, o)
      ]

  pub split_low : (i : ℕ) → i < length xs → get_or xs i 0 ≤ size
  split_low i h = at_most size xs (cuts_lines size xs c) i h

  -- one more line, which is not above the next split
  module _ (i n v w : ℕ) (z s z' s' : ℕ → ℕ) (d : Side xs i n v z s) (h : i < length xs) (up : v < w) (low : w ≤ get_or xs i 0)
      (sz : (k : ℕ) → k < n → z' k ≡ z k) (ss : (k : ℕ) → k < n → s' k ≡ s k) (nz : z' n ≡ w) where
    blocks : (m : ℕ) → s' n ≡ m → From xs m w → (k : ℕ) → k < n + 1 → From xs (s' k) (z' k)
    blocks m e f k l =
        elim (cases_eq k n) [
          | inl q ↦ (subst (λ x. From xs (s' x) (z' x)) (sym q) (subst (λ y. From xs y (z' n)) (sym e) (subst (λ y. From xs m y) (sym nz) f)))
          | inr q ↦ (let l' : k < n = omega (arith, l, q) in subst (λ y. From xs y (z' k)) (sym (ss k l')) (subst (λ y. From xs (s k) y) (sym (sz k l')) (d.block k l')))
        ]

    old : (a : ℕ) → a < i → (k : ℕ) × (k < n + 1) × (z' k ≡ get_or xs a 0)
    old a l = let p = d.all a l in (p.0, omega (arith, p.1), sz p.0 p.1 ∙ p.2)

    hit : get_or xs i 0 ≡ w → s' n ≡ i → Side xs (i + 1) (n + 1) w z' s'
    hit e f =
        let g : i + 1 - 1 ≡ i = omega arith in
        let next : i + 1 < length xs → w < get_or xs (i + 1) 0 = λ l. omega (arith, c.rises i l, e) in
        record {
          some = omega arith;
          most = omega arith;
          past = omega (arith, ap (λ x. get_or xs x 0) g, e);
          next = next;
          all =
              λ a l.
              (elim (cases_eq a i) [
                | inl q ↦ (n, omega arith, nz ∙ (sym e ∙ ap (λ x. get_or xs x 0) (sym q)))
                | inr q ↦ old a (omega (arith, l, q))
              ]);
          block = blocks i f (h, omega (arith, e), next);
        }

    miss : (get_or xs i 0 ≡ w → ⊥) → s' n ≡ i - 1 → Side xs i (n + 1) w z' s'
    miss e f =
        let under : w < get_or xs i 0 = omega (arith, low, e) in
        let g : i - 1 + 1 ≡ i = omega (arith, d.some) in
        record {
          some = d.some;
          most = d.most;
          past = omega (arith, d.past, up);
          next = λ l. under;
          all = old;
          block = blocks (i - 1) f (omega arith, omega (arith, d.past, up), λ l. subst (λ x. w < get_or xs x 0) (sym g) under);
        }

    pub side_more : (i' : ℕ) → i' ≡ cond (eqb (get_or xs i 0) w) (i + 1) i → s' n ≡ i' - 1 → Side xs i' (n + 1) w z' s'
    side_more i' e f =
        elim (cases_Bool (eqb (get_or xs i 0) w)) [
          | inl t ↦
              (let q : i' ≡ i + 1 = e ∙ cond-true (eqb (get_or xs i 0) w) (i + 1) i t in
              subst (λ x. Side xs x (n + 1) w z' s') (sym q) (hit (eqb-true (get_or xs i 0) w t) (omega (arith, f, q))))
          | inr t ↦
              (let q : i' ≡ i = e ∙ cond-false (eqb (get_or xs i 0) w) (i + 1) i t in
              subst (λ x. Side xs x (n + 1) w z' s') (sym q) (miss (eqb-false (get_or xs i 0) w t) (omega (arith, f, q))))
        ]

  -- the count of passed splits rises by one at a split of the list, and stays otherwise
  pub passed_most : (i w i' : ℕ) → i < length xs → i' ≡ cond (eqb (get_or xs i 0) w) (i + 1) i → (i ≤ i') × (i' ≤ i + 1) × (get_or xs i 0 ≡ w → i' ≡ i + 1)
  passed_most i w i' h e =
      elim (cases_Bool (eqb (get_or xs i 0) w)) [
        | inl t ↦ (let q : i' ≡ i + 1 = e ∙ cond-true (eqb (get_or xs i 0) w) (i + 1) i t in (omega arith, omega arith, λ _. q))
        | inr t ↦
            (let q : i' ≡ i = e ∙ cond-false (eqb (get_or xs i 0) w) (i + 1) i t in
            (omega arith, omega arith, λ p. absurd (eqb-false (get_or xs i 0) w t p)))
      ]

pub merge_begins : (xs ys : List ℕ) (z : ℕ → ℕ) → z 0 ≡ 0 → get_or xs 0 0 ≡ 0 → 0 < length xs → Merged xs ys 1 1 1 0 z
merge_begins xs ys z ez ex h =
    record {
      some = omega arith;
      few = omega arith;
      first = ez;
      last = ez;
      rises = λ k l. absurd (omega arith);
      each = λ k l. (let e : k ≡ 0 = omega arith in inl (0, h, ex ∙ (sym ez ∙ ap z (sym e))));
    }

module _ (xs ys : List ℕ) (i j n v w i' j' : ℕ) (z z' : ℕ → ℕ) (m : Merged xs ys i j n v z) (up : v < w) (more : i + j + 1 ≤ i' + j') (from : Among xs w ⊎ Among ys w)
    (sz : (k : ℕ) → k < n → z' k ≡ z k) (nz : z' n ≡ w) where
  pub merge_more : Merged xs ys i' j' (n + 1) w z'
  merge_more =
      let g : n + 1 - 1 ≡ n = omega arith in
      record {
        some = omega arith;
        few = omega (arith, m.few, more);
        first = sz 0 (omega (arith, m.some)) ∙ m.first;
        last = ap z' g ∙ nz;
        rises =
            λ k l.
            (elim (cases_eq (k + 1) n) [
              | inl q ↦
                  (let p : n - 1 ≡ k = omega (arith, q) in
                  omega (arith, sz k (omega (arith, q)), ap z' q, nz, up, m.last, ap z p))
              | inr q ↦ omega (arith, sz k (omega (arith, q, l)), sz (k + 1) (omega (arith, q, l)), m.rises k (omega (arith, q, l)))
            ]);
        each =
            λ k l.
            (elim (cases_eq k n) [
              | inl q ↦ subst (λ x. Among xs (z' x) ⊎ Among ys (z' x)) (sym q) (subst (λ y. Among xs y ⊎ Among ys y) (sym nz) from)
              | inr q ↦ (let l' : k < n = omega (arith, q, l) in subst (λ y. Among xs y ⊎ Among ys y) (sym (sz k l')) (m.each k l'))
            ]);
      }

-- one more line in the tables: the lower of the next splits
module _ (size : ℕ) (xs ys : List ℕ) (c : Cuts size xs) (d : Cuts size ys) (i j n v w i' j' : ℕ) (zs ss ts : List ℕ)
    (a : Side xs i n v (λ k. get_or zs k 0) (λ k. get_or ss k 0)) (b : Side ys j n v (λ k. get_or zs k 0) (λ k. get_or ts k 0)) (m : Merged xs ys i j n v (λ k. get_or zs k 0))
    (hx : i < length xs) (hy : j < length ys) (e : w ≡ min (get_or xs i 0) (get_or ys j 0))
    (ei : i' ≡ cond (eqb (get_or xs i 0) w) (i + 1) i) (ej : j' ≡ cond (eqb (get_or ys j 0) w) (j + 1) j)
    (lz : n < length zs) (ls : n < length ss) (lt : n < length ts) where
  either : ((w ≡ get_or xs i 0) × (w ≤ get_or ys j 0)) ⊎ ((w ≡ get_or ys j 0) × (w ≤ get_or xs i 0))
  either =
      elim (cases_lt (get_or xs i 0) (get_or ys j 0)) [
        | inl l ↦ (let h : get_or xs i 0 ≤ get_or ys j 0 = omega arith in let q : w ≡ get_or xs i 0 = e ∙ min-eq_left h in inl (q, omega (arith, q, h)))
        | inr l ↦ (let q : w ≡ get_or ys j 0 = e ∙ min-eq_right l in inr (q, omega (arith, q, l)))
      ]

  low_x : w ≤ get_or xs i 0
  low_x = elim either [ inl p ↦ omega (arith, p.0) | inr p ↦ p.1 ]

  low_y : w ≤ get_or ys j 0
  low_y = elim either [ inl p ↦ p.1 | inr p ↦ omega (arith, p.0) ]

  pub rises_on : v < w
  rises_on = elim either [ inl p ↦ omega (arith, p.0, a.next hx) | inr p ↦ omega (arith, p.0, b.next hy) ]

  more : i + j + 1 ≤ i' + j'
  more =
      let x = passed_most size xs c i w i' hx ei in
      let y = passed_most size ys d j w j' hy ej in
      elim either [ inl p ↦ omega (arith, x.2 (sym p.0), y.0) | inr p ↦ omega (arith, y.2 (sym p.0), x.0) ]

  from : Among xs w ⊎ Among ys w
  from = elim either [ inl p ↦ inl (i, hx, sym p.0) | inr p ↦ inr (j, hy, sym p.0) ]

  kept : (us : List ℕ) (u k : ℕ) → k < n → get_or (set us n u) k 0 ≡ get_or us k 0
  kept us u k l = get_or-set_other us n k u 0 (λ q. omega (arith, q, l))

  pub target_more : Side xs i' (n + 1) w (λ k. get_or (set zs n w) k 0) (λ k. get_or (set ss n (i' - 1)) k 0)
  target_more =
      side_more size xs c i n v w (λ k. get_or zs k 0) (λ k. get_or ss k 0) (λ k. get_or (set zs n w) k 0) (λ k. get_or (set ss n (i' - 1)) k 0) a hx rises_on low_x
      (kept zs w) (kept ss (i' - 1)) (get_or-set_same zs n w 0 lz) i' ei (get_or-set_same ss n (i' - 1) 0 ls)

  pub source_more : Side ys j' (n + 1) w (λ k. get_or (set zs n w) k 0) (λ k. get_or (set ts n (j' - 1)) k 0)
  source_more =
      side_more size ys d j n v w (λ k. get_or zs k 0) (λ k. get_or ts k 0) (λ k. get_or (set zs n w) k 0) (λ k. get_or (set ts n (j' - 1)) k 0) b hy rises_on low_y
      (kept zs w) (kept ts (j' - 1)) (get_or-set_same zs n w 0 lz) j' ej (get_or-set_same ts n (j' - 1) 0 lt)

  pub lines_more : Merged xs ys i' j' (n + 1) w (λ k. get_or (set zs n w) k 0)
  lines_more = merge_more xs ys i j n v w i' j' (λ k. get_or zs k 0) (λ k. get_or (set zs n w) k 0) m rises_on more from (kept zs w) (get_or-set_same zs n w 0 lz)

-- the lines are all there once the last is not below the size
module _ (size : ℕ) (xs ys zs : List ℕ) (c : Cuts size xs) (d : Cuts size ys) (i j n v : ℕ) (z s t : ℕ → ℕ) (a : Side xs i n v z s) (b : Side ys j n v z t) (m : Merged xs ys i j n v z) (stop : size ≤ v)
    (len : length zs ≡ n) (held : (k : ℕ) → k < n → get_or zs k 0 ≡ z k) where
  low : (k : ℕ) → k < n → z k ≤ size
  low k h =
      elim (m.each k h) [
        | inl p ↦ omega (arith, split_low size xs c p.0 p.1, p.2)
        | inr p ↦ omega (arith, split_low size ys d p.0 p.1, p.2)
      ]

  ends : v ≡ size
  ends = omega (arith, low (n - 1) (omega (arith, m.some)), m.last, stop)

  whole : (us : List ℕ) (e : ℕ) (u : ℕ → ℕ) → Cuts size us → Side us e n v z u → e ≡ length us
  whole us e u q f =
      elim (cases_eq e (length us)) [
        | inl p ↦ p
        | inr p ↦
            (let h : e < length us = omega (arith, f.most, p) in
            absurd (omega (arith, f.next h, split_low size us q e h, ends)))
      ]

  two : 2 ≤ n
  two =
      elim (cases_eq n 1) [
        | inl q ↦ (let e : n - 1 ≡ 0 = omega (arith, q) in absurd (omega (arith, ap z e, m.first, m.last, ends, some_size size xs (cuts_lines size xs c))))
        | inr q ↦ omega (arith, q, m.some)
      ]

  contains : (us : List ℕ) (e : ℕ) (u : ℕ → ℕ) → Cuts size us → Side us e n v z u → (x : ℕ) → Among us x → Among zs x
  contains us e u q f x p =
      let r = f.all p.0 (omega (arith, whole us e u q f, p.1)) in
      (r.0, omega (arith, r.1, len), held r.0 r.1 ∙ (r.2 ∙ p.2))

  merged_lines : Lines size zs
  merged_lines =
      let e : length zs - 1 ≡ n - 1 = omega (arith, len) in
      record {
        first = held 0 (omega (arith, two)) ∙ m.first;
        rises = λ k h. omega (arith, held k (omega (arith, h, len)), held (k + 1) (omega (arith, h, len)), m.rises k (omega (arith, h, len)));
        last = ap (λ x. get_or zs x 0) e ∙ (held (n - 1) (omega (arith, two)) ∙ (m.last ∙ ends));
        long = omega (arith, two, len);
      }

  pub merge_all : Union size xs ys zs
  merge_all =
      union_of size xs ys zs merged_lines (contains xs i s c a) (contains ys j t d b)
      (λ x p.
      (let e : z p.0 ≡ x = sym (held p.0 (omega (arith, p.1, len))) ∙ p.2 in
      subst (λ y. Among xs y ⊎ Among ys y) e (m.each p.0 (omega (arith, p.1, len)))))

  -- a line that is not the last begins in the block that covers it
  pub blocks_all : (us : List ℕ) (e : ℕ) (u : ℕ → ℕ) → Cuts size us → Side us e n v z u → (k : ℕ) → k < n - 1 → u k ≡ covering us (z k)
  blocks_all us e u q f k h =
      let p = f.block k (omega arith) in
      let under : z k < size =
      omega (arith, rises_past size zs merged_lines k (n - 1) h (omega (arith, len, two)), held k (omega arith), held (n - 1) (omega (arith, two)), m.last, ends) in
      let one : u k + 1 < length us =
      elim (cases_eq (u k + 1) (length us)) [
        | inl r ↦ (let g : length us - 1 ≡ u k = omega (arith, r) in absurd (omega (arith, ap (λ x. get_or us x 0) g, q.last, p.1, under)))
        | inr r ↦ omega (arith, r, p.0)
      ] in
      (covered size us (z k) q under).1 (u k) (record { one = omega (arith, one); from = p.1; to = p.2 one })
