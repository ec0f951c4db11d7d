-- Where the elements of a sound grid lie: in their owner's part, apart, and at equal steps.
use Rattle.std.proofs.Common.{◌≡◌, ℕ, zero, suc, ◌+◌, ◌-◌, ◌*◌, ◌/◌, ◌%◌, ◌<◌, ◌≤◌, eqb, sym, refl, ap, ◌∙◌, subst, inl, inr, add-zero, mul-le-mul_right, add-mul, one-mul, mul-one, arith}
use Rattle.std.proofs.lemmas.Nat.{mul-add-lt, div-mul-add, mod-mul-add}
use Rattle.std.proofs.lemmas.Bool.{cases_order, eq-eqb, cond-true}
use Rattle.splits.specs.declared.order.Order.{Order}
use Rattle.splits.specs.declared.order.Order.TheVariants.{RowMajor, ColumnMajor}
use Rattle.splits.specs.Blocks.{Grid, Sound, Covers, blocks, top, left, height, width, owner, cover}
use Rattle.splits.specs.Places.{lines, pitch, line, spot, room, inside, held, start, offset, place, step_along_row, step_down_column, row_step, column_step}
use Rattle.splits.specs.Laws.{Filled, Naming, Shared, Placed, InParts, Apart, Stepped}
use Rattle.splits.proofs.Blocks.{covers, only}

-- two quotients and two remainders of one number are equal
same_parts : (a w b c d : ℕ) → b < w → d < w → a * w + b ≡ c * w + d → (a ≡ c) × (b ≡ d)
same_parts a w b c d h k e =
    (sym (div-mul-add a w b h) ∙ (ap (λ x. x / w) e ∙ div-mul-add c w d k), sym (mod-mul-add a w b h) ∙ (ap (λ x. x % w) e ∙ mod-mul-add c w d k))

line_below : (o : Order) (h w i j : ℕ) → i < h → j < w → line o i j < lines o h w
line_below RowMajor h w i j u v = u
line_below ColumnMajor h w i j u v = v

spot_below : (o : Order) (h w i j : ℕ) → i < h → j < w → spot o i j < pitch o h w
spot_below RowMajor h w i j u v = v
spot_below ColumnMajor h w i j u v = u

same_element : (o : Order) (i j k l : ℕ) → line o i j ≡ line o k l → spot o i j ≡ spot o k l → (i ≡ k) × (j ≡ l)
same_element RowMajor i j k l e f = (e, f)
same_element ColumnMajor i j k l e f = (f, e)

-- along a row and down a column of a block, places go by equal steps
row_stepped : (o : Order) (w i j k : ℕ) → line o i (j + k) * w + spot o i (j + k) ≡ line o i j * w + spot o i j + k * step_along_row o w
row_stepped RowMajor w i j k = omega (arith, mul-one k)
row_stepped ColumnMajor w i j k = omega (arith, add-mul j k w)

column_stepped : (o : Order) (w i j k : ℕ) → line o (i + k) j * w + spot o (i + k) j ≡ line o i j * w + spot o i j + k * step_down_column o w
column_stepped RowMajor w i j k = omega (arith, add-mul i k w)
column_stepped ColumnMajor w i j k = omega (arith, mul-one k)

module _ (g : Grid) where
  held_rises : (p b d : ℕ) → held g p b ≤ held g p (b + d)
  held_rises p b zero = rw (add-zero b) (omega arith)
  held_rises p b (suc d) =
      let e : b + suc d ≡ suc (b + d) = omega arith in
      rw e (omega (arith, held_rises p b d))

  held_own : (b : ℕ) → held g (owner g b) (suc b) ≡ start g b + room g b
  held_own b = ap (λ x. start g b + x) (cond-true (eqb (owner g b) (owner g b)) (room g b) 0 (eq-eqb (owner g b) (owner g b) refl))

  -- a block ends where the later blocks of its owner have not begun
  pub ends_before : (b m : ℕ) → b < m → start g b + room g b ≤ held g (owner g b) m
  ends_before b m l =
      let e : suc b + (m - suc b) ≡ m = omega arith in
      let r = subst (λ x. held g (owner g b) (suc b) ≤ held g (owner g b) x) e (held_rises (owner g b) (suc b) (m - suc b)) in
      omega (arith, r, held_own b)

  module _ (b r c : ℕ) (v : Covers g b r c) where
    pub tall : r - top g b < height g b
    tall = omega (arith, v.below_top, v.above_bottom)

    pub wide : c - left g b < width g b
    wide = omega (arith, v.past_left, v.before_right)

    pub inside_room : inside g b r c < room g b
    inside_room =
        omega (
          arith,
          mul-add-lt (line g.order (r - top g b) (c - left g b)) (pitch g.order (height g b) (width g b)) (spot g.order (r - top g b) (c - left g b))
              (lines g.order (height g b) (width g b)) (line_below g.order (height g b) (width g b) (r - top g b) (c - left g b) tall wide)
              (spot_below g.order (height g b) (width g b) (r - top g b) (c - left g b) tall wide),
        )

    spot_in : spot g.order (r - top g b) (c - left g b) < pitch g.order (height g b) (width g b)
    spot_in = spot_below g.order (height g b) (width g b) (r - top g b) (c - left g b) tall wide

  inside_apart : (b r c q d : ℕ) → Covers g b r c → Covers g b q d → inside g b r c ≡ inside g b q d → (r ≡ q) × (c ≡ d)
  inside_apart b r c q d v w e =
      let o = g.order in
      let p = same_parts (line o (r - top g b) (c - left g b)) (pitch o (height g b) (width g b)) (spot o (r - top g b) (c - left g b)) (line o (q - top g b) (d - left g b)) (spot o (q - top g b) (d - left g b)) (spot_in b r c v) (spot_in b q d w) e in
      let s = same_element o (r - top g b) (c - left g b) (q - top g b) (d - left g b) p.0 p.1 in
      (omega (arith, s.0, v.below_top, w.below_top), omega (arith, s.1, v.past_left, w.past_left))

  -- two blocks of one owner have no place in common
  blocks_apart : (a b : ℕ) (x y : ℕ) → owner g a ≡ owner g b → x < room g a → y < room g b → start g a + x ≡ start g b + y → a ≡ b
  blocks_apart a b x y e h k same =
      elim (cases_order a b) [
        | inl f ↦ f
        | inr o ↦ (elim o [
          | inl l ↦ (let m : start g a + room g a ≤ start g b = subst (λ p. start g a + room g a ≤ held g p b) e (ends_before a b l) in absurd (omega (arith, m)))
          | inr l ↦ (let m : start g b + room g b ≤ start g a = subst (λ p. start g b + room g b ≤ held g p a) (sym e) (ends_before b a l) in absurd (omega (arith, m)))
        ])
      ]

pub filled : Filled
filled n rows columns g s r c h k =
    let b = cover g r c in
    let v = covers n rows columns g s r c h k in
    omega (arith, ends_before g b (blocks g) v.one, inside_room g b r c v)

module _ (n rows columns : ℕ) (g : Grid) (s : Sound n rows columns g) (share : ℕ) (fits : Shared n g share) (σ : ℕ → ℕ) (names : Naming n σ) where
  named : (r c : ℕ) → r < rows → c < columns → owner g (cover g r c) < n
  named r c h k = s.owned.below (cover g r c) (covers n rows columns g s r c h k).one

  low : (r c : ℕ) → r < rows → c < columns → offset g r c < share
  low r c h k = omega (arith, filled n rows columns g s r c h k, fits (owner g (cover g r c)) (named r c h k))

  pub placed : (r c : ℕ) → r < rows → c < columns → Placed n g share σ r c
  placed r c h k =
      let q = σ (owner g (cover g r c)) in
      let below : q + 1 ≤ n = omega (arith, names.below (owner g (cover g r c)) (named r c h k)) in
      let part : place g share σ r c < (q + 1) * share = omega (arith, low r c h k, add-mul q 1 share, one-mul share) in
      record {
        owned = named r c h k;
        from = omega arith;
        to = part;
        bank = omega (arith, part, mul-le-mul_right share below);
      }

  pub apart : (r c q d : ℕ) → r < rows → c < columns → q < rows → d < columns → place g share σ r c ≡ place g share σ q d → (r ≡ q) × (c ≡ d)
  apart r c q d h k m l e =
      let a = cover g r c in
      let b = cover g q d in
      let v = covers n rows columns g s r c h k in
      let w = covers n rows columns g s q d m l in
      let p = same_parts (σ (owner g a)) share (offset g r c) (σ (owner g b)) (offset g q d) (low r c h k) (low q d m l) e in
      let o = names.apart (owner g a) (owner g b) (named r c h k) (named q d m l) p.0 in
      let f : a ≡ b = blocks_apart g a b (inside g a r c) (inside g b q d) o (inside_room g a r c v) (inside_room g b q d w) p.1 in
      let w' : Covers g a q d = subst (λ z. Covers g z q d) (sym f) w in
      let z : start g a + inside g a r c ≡ start g a + inside g a q d = p.1 ∙ ap (λ y. start g y + inside g y q d) (sym f) in
      inside_apart g a r c q d v w' (omega (arith, z))

pub in_parts : InParts
in_parts n rows columns g s share fits σ names = placed n rows columns g s share fits σ names

pub all_apart : Apart
all_apart n rows columns g s share fits σ names = apart n rows columns g s share fits σ names

pub stepped : Stepped
stepped n rows columns g s b r c k v =
    let at : (q d : ℕ) → Covers g b q d → offset g q d ≡ start g b + inside g b q d = λ q d w. ap (λ y. start g y + inside g y q d) (sym (only n rows columns g s b q d w)) in
    let o = g.order in
    let w = pitch o (height g b) (width g b) in (
      (λ u.
          (let e : c + k - left g b ≡ c - left g b + k = omega (arith, v.past_left) in
          let f : inside g b r (c + k) ≡ inside g b r c + k * row_step g b = ap (λ x. line o (r - top g b) x * w + spot o (r - top g b) x) e ∙ row_stepped o w (r - top g b) (c - left g b) k in
          omega (arith, at r c v, at r (c + k) u, f))),
      (λ u.
          (let e : r + k - top g b ≡ r - top g b + k = omega (arith, v.below_top) in
          let f : inside g b (r + k) c ≡ inside g b r c + k * column_step g b = ap (λ x. line o x (c - left g b) * w + spot o x (c - left g b)) e ∙ column_stepped o w (r - top g b) (c - left g b) k in
          omega (arith, at r c v, at (r + k) c u, f))),
    )
